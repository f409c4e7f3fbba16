use Rattle.std.proofs.Common.{◌≡◌, ◌+◌, ◌≤◌, ◌||◌, ◌++◌, length, map, IsTrue, vec_len, vec_capacity}
use Rattle.std.specs.Vec.Iter.{into_iter_items}
use Rattle.lol_instructions.specs.Compounds.{has_test_by_type, some_has_type, all_of, any_of}
use Rattle.lol_instructions.specs.Keys.{key_tests}
use Rattle.lol_instructions.specs.CompiledKeys.{compiled_key_test}
use Rattle.lol_program.specs.Predicates.{test_shown, tests_of}
use Rattle.lol_program.specs.Compiling.{IsCompiledTest}
use Rattle.lol_program.proofs.CompiledLists.{Completes, IsCompiledPredicate}
use Rattle.lol_program.proofs.compilable.+compiling.Given as goal

abbrev pub invariant-compile_predicates-loop-predicate :
    goal.invariant-compile_predicates-loop-predicate
invariant-compile_predicates-loop-predicate l = record {
  can_next : (goal.iterator-compile_predicates-loop-predicate).can_next l.predicate-iterator;
  finite : (goal.iterator-compile_predicates-loop-predicate).is_finite l.predicate-iterator;
  done : Completes IsCompiledPredicate l.compiled.items (map tests_of (into_iter_items l.predicate-iterator)) (map tests_of l.fn.predicates.items);
  flag : (l.enable_nth_of_type || some_has_type (any_of (map tests_of (into_iter_items l.predicate-iterator)))) ≡ (l.fn.enable_nth_of_type || some_has_type (any_of (map tests_of l.fn.predicates.items)));
  stays : IsTrue l.fn.enable_nth_of_type → IsTrue l.enable_nth_of_type;
  room : vec_len l.compiled + length (into_iter_items l.predicate-iterator) ≤ vec_capacity l.compiled;
}

abbrev pub invariant-compile_tests-loop-test : goal.invariant-compile_tests-loop-test
invariant-compile_tests-loop-test l = record {
  can_next : (goal.iterator-compile_tests-loop-test).can_next l.test-iterator;
  finite : (goal.iterator-compile_tests-loop-test).is_finite l.test-iterator;
  done : Completes IsCompiledTest l.compiled.items (map test_shown (into_iter_items l.test-iterator)) (map test_shown l.fn.tests.items);
  flag : (l.enable_nth_of_type || has_test_by_type (all_of (map test_shown (into_iter_items l.test-iterator)))) ≡ (l.fn.enable_nth_of_type || has_test_by_type (all_of (map test_shown l.fn.tests.items)));
  keys : (map compiled_key_test l.compiled.items ++ key_tests (all_of (map test_shown (into_iter_items l.test-iterator)))) ≡ key_tests (all_of (map test_shown l.fn.tests.items));
  stays : IsTrue l.fn.enable_nth_of_type → IsTrue l.enable_nth_of_type;
  room : vec_len l.compiled + length (into_iter_items l.test-iterator) ≤ vec_capacity l.compiled;
}
