use Rattle.std.proofs.Common.{ℕ, ◌<◌}
use Rattle.std.specs.Prelude.{IsSome}
use Rattle.lol_program.specs.Indexed.{at_key}
use Rattle.lol_program.specs.NodeKeys.{node_key}
use Rattle.lol_program.specs.Views.{tests_of_compound}
use Rattle.lol_program.proofs.node_index.NodeIndex.free_key.Given as goal

abbrev pub invariant-loop-salt : goal.invariant-loop-salt
invariant-loop-salt l = (salt : ℕ) → salt < l.salt → IsSome (at_key l.self (node_key l.list salt (tests_of_compound l.compound)))
