use Rattle.std.proofs.Common.{◌≡◌, take, map}
use Rattle.lol_instructions.specs.Compounds.{all_of, any_of, by_names, some_by_names}
use Rattle.lol_program.specs.Predicates.{test_shown, tests_of}
use Rattle.lol_vectors.specs.PlainElements.{element_shown}
use Rattle.lol_vectors.proofs.plain_element.+valuing.Given as goal

abbrev pub invariant-by_names-loop-test : goal.invariant-by_names-loop-test
invariant-by_names-loop-test l = by_names (all_of (map test_shown (take l.test-index l.test-items))) (element_shown l.element) ≡ l.value

abbrev pub invariant-some_by_names-loop-predicate : goal.invariant-some_by_names-loop-predicate
invariant-some_by_names-loop-predicate l = some_by_names (any_of (map tests_of (take l.predicate-index l.predicates))) (element_shown l.element) ≡ l.value
