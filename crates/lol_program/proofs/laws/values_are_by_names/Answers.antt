use Rattle.lol_program.specs.ValueLaws.{values_are_by_names}
use Rattle.lol_program.proofs.laws.values_are_by_names.Goals as goal

pub returns : goal.returns
returns c = values_are_by_names
