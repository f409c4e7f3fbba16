use Rattle.std.proofs.Common.{ℕ, ◌≢◌, ◌<◌, map, get_or}
use Rattle.lol_program.specs.Views.{node_of, tests_of_compound}
use Rattle.lol_program.specs.Forest.{Node}
use Rattle.lol_program.proofs.node_index.first_index_of.Given as goal

abbrev pub invariant-loop-i : goal.invariant-loop-i
invariant-loop-i l = (k : ℕ) (d : Node) → k < l.i → (get_or (map node_of l.nodes) k d).compound ≢ tests_of_compound l.compound
