use Rattle.std.proofs.Common.{◌≡◌, ◌+◌, take}
use Rattle.lol_instructions.specs.Compiled.{Sight, predicate_value, some_values}
use Rattle.lol_instructions.specs.PredicateMarks.{AreMarksOf}
use Rattle.lol_instructions.proofs.predicate_marks.+marking.Given as goal

abbrev pub invariant-PredicateMarks::of-loop-test : goal.invariant-PredicateMarks::of-loop-test
invariant-PredicateMarks::of-loop-test l = AreMarksOf l.marks (take (l.test-index + 1) l.tests)

abbrev pub invariant-value_of_some-loop-predicate : goal.invariant-value_of_some-loop-predicate
invariant-value_of_some-loop-predicate l = (s : Sight) → some_values (λ predicate. predicate_value predicate s) (take l.predicate-index l.predicates) ≡ l.value
