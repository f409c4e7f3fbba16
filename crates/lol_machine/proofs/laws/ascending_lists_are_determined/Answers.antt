use Rattle.lol_machine.proofs.Common.{ascending_is_determined}
use Rattle.lol_machine.proofs.laws.ascending_lists_are_determined.Goals as goal

pub returns : goal.returns
returns c = ascending_is_determined
