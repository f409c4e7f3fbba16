use Rattle.lol_program.specs.ClosedLaws.{beginnings_are_closed}
use Rattle.lol_program.proofs.laws.beginnings_are_closed.Goals as goal

pub returns : goal.returns
returns c = beginnings_are_closed
