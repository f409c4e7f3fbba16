use Rattle.std.proofs.Common.{◌≡◌, true, false, take}
use Rattle.std.specs.List.{list_all, list_any}
use Rattle.lol_vectors.specs.PlainElements.{element_shown}
use Rattle.lol_vectors.proofs.PlainTests.{passes, passes_all}
use Rattle.lol_vectors.proofs.plain_element.+passing.Given as goal

abbrev pub invariant-predicate_passes-loop-test : goal.invariant-predicate_passes-loop-test
invariant-predicate_passes-loop-test l = list_all (passes (element_shown l.element)) (take l.test-index l.test-items) ≡ true

abbrev pub invariant-some_pass-loop-predicate : goal.invariant-some_pass-loop-predicate
invariant-some_pass-loop-predicate l = list_any (passes_all (element_shown l.element)) (take l.predicate-index l.predicates) ≡ false
