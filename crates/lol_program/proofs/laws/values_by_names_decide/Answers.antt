use Rattle.lol_program.specs.ValueLaws.{values_decide}
use Rattle.lol_program.proofs.laws.values_by_names_decide.Goals as goal

pub returns : goal.returns
returns c = values_decide
