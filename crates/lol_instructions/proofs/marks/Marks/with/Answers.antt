use Rattle.lol_instructions.proofs.MarkLemmas.{both_marked}
use Rattle.lol_instructions.proofs.marks.Marks.with.Goals as goal

pub returns : goal.returns
returns c = λ bit. both_marked c.args.self.bits c.args.others.bits bit
