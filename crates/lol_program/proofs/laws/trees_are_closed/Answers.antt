use Rattle.lol_program.specs.ClosedLaws.{trees_are_closed}
use Rattle.lol_program.proofs.laws.trees_are_closed.Goals as goal

pub returns : goal.returns
returns c = trees_are_closed
