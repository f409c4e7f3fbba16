use Rattle.std.proofs.Common.{◌≡◌, map, take}
use Rattle.lol_program.specs.Predicates.{test_shown, tests_of}
use Rattle.lol_program.proofs.Tests.{test_in, compound_in}
use Rattle.lol_program.proofs.predicate.+parts.Given as goal

abbrev pub invariant-Predicate::from_item-loop-part : goal.invariant-Predicate::from_item-loop-part
invariant-Predicate::from_item-loop-part l = map test_shown l.tests.items ≡ map test_in (take l.part-index l.part-items)

abbrev pub invariant-predicates_of-loop-item : goal.invariant-predicates_of-loop-item
invariant-predicates_of-loop-item l = map tests_of l.predicates.items ≡ map compound_in (take l.item-index l.item-items)
