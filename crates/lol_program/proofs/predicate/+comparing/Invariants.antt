use Rattle.std.proofs.Common.{◌≡◌, ℕ, ◌<◌, get_or}
use Rattle.lol_css.specs.declared.selector.SimpleSelector.{SimpleSelector}
use Rattle.lol_css.specs.declared.selector.ComplexSelector.{ComplexSelector}
use Rattle.lol_program.specs.Predicates.{test_shown, tests_of}
use Rattle.lol_program.specs.declared.predicate.Test.{Test}
use Rattle.lol_program.specs.declared.predicate.Predicate.{Predicate}
use Rattle.lol_program.proofs.Tests.{test_in, compound_in}
use Rattle.lol_program.proofs.predicate.+comparing.Given as goal

abbrev pub invariant-are_of_written-loop-i : goal.invariant-are_of_written-loop-i
invariant-are_of_written-loop-i l = (k : ℕ) (a : Test) (b : SimpleSelector) → k < l.i → test_shown (get_or l.tests k a) ≡ test_in (get_or l.parts k b)

abbrev pub invariant-are_of_items-loop-i : goal.invariant-are_of_items-loop-i
invariant-are_of_items-loop-i l = (k : ℕ) (a : Predicate) (b : ComplexSelector) → k < l.i → tests_of (get_or l.predicates k a) ≡ compound_in (get_or l.items k b)
