use Rattle.lol_instructions.proofs.MarkLemmas.{one_marked}
use Rattle.lol_instructions.proofs.marks.Marks.one.Goals as goal

pub returns : goal.returns
returns c = λ other. one_marked c.args.bit other c.requires
