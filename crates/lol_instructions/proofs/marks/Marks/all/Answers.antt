use Rattle.lol_instructions.proofs.MarkLemmas.{all_marked}
use Rattle.lol_instructions.proofs.marks.Marks.all.Goals as goal

pub returns : goal.returns
returns c = all_marked
