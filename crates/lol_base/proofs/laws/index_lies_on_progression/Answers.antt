use Rattle.lol_base.proofs.Steps.{has-is_on}
use Rattle.lol_base.proofs.laws.index_lies_on_progression.Goals as goal

pub returns : goal.returns
returns c = has-is_on
