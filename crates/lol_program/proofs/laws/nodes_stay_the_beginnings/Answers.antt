use Rattle.lol_program.specs.PairNodeLaws.{AreNodes-joined}
use Rattle.lol_program.proofs.laws.nodes_stay_the_beginnings.Goals as goal

pub returns : goal.returns
returns c = AreNodes-joined
