use Rattle.lol_program.specs.PairNodeLaws.{nodes_of-AreNodes}
use Rattle.lol_program.proofs.laws.nodes_are_the_beginnings.Goals as goal

pub returns : goal.returns
returns c = nodes_of-AreNodes
