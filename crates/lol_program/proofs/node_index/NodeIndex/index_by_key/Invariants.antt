use Rattle.std.proofs.Common.{map}
use Rattle.lol_program.specs.Views.{node_of, tests_of_compound}
use Rattle.lol_program.proofs.Indexing.{StandOthers}
use Rattle.lol_program.proofs.node_index.NodeIndex.index_by_key.Given as goal

abbrev pub invariant-loop-salt : goal.invariant-loop-salt
invariant-loop-salt l = StandOthers l.self l.list (tests_of_compound l.compound) (map node_of l.nodes) l.salt
