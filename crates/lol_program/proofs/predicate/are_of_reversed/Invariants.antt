use Rattle.std.proofs.Common.{◌≡◌, ℕ, ◌<◌, get_or, reverse}
use Rattle.lol_css.specs.declared.selector.SimpleSelector.{SimpleSelector}
use Rattle.lol_program.specs.Predicates.{test_shown}
use Rattle.lol_program.specs.declared.predicate.Test.{Test}
use Rattle.lol_program.proofs.Tests.{test_in}
use Rattle.lol_program.proofs.predicate.are_of_reversed.Given as goal

abbrev pub invariant-loop-i : goal.invariant-loop-i
invariant-loop-i l = (k : ℕ) (a : Test) (b : SimpleSelector) → k < l.i → test_shown (get_or l.tests k a) ≡ test_in (get_or (reverse l.parts) k b)
