use Rattle.std.proofs.Common.{◌≡◌, ◌||◌, map, [], sym, ap, ◌∙◌}
use Rattle.std.specs.Vec.Iter.{into_iter_items}
use Rattle.lol_instructions.specs.Compounds.{test_has_type, any_of}
use Rattle.lol_program.specs.Predicates.{test_shown, tests_of}
use Rattle.lol_program.specs.Compiling.{IsCompiledTest}
use Rattle.lol_program.proofs.ListIndices.{empty_from}
use Rattle.lol_program.specs.PredicateListLaws.{test_shown-NoneOf, test_shown-SomeOf}
use Rattle.lol_program.proofs.CompiledLists.{IsCompiledPredicate, completes_all, tests_compiled, predicates_compiled, none_compiled, some_compiled}
use Rattle.lol_program.proofs.compilable.+compiling.Goals as goal

pub compile_predicates-returns-clause-predicates :
    goal.compile_predicates-returns-clause-predicates
compile_predicates-returns-clause-predicates t c =
    let left = c.loop-predicate.predicate-iterator in
    let none : into_iter_items left ≡ [] = empty_from (into_iter_items left) (sym left.rest.ok.0 ∙ c.in-None.ensures.steps.0) in
    predicates_compiled c.loop-predicate.compiled.items (map tests_of c.args.predicates.items)
    (completes_all IsCompiledPredicate c.loop-predicate.compiled.items (map tests_of (into_iter_items left)) (map tests_of c.args.predicates.items) (ap (map tests_of) none) c.loop-predicate.invariant.done)

pub TestCompilable::compile-returns-in_ok-compile_predicates-in-NoneOf-clause-test :
    goal.TestCompilable::compile-returns-in_ok-compile_predicates-in-NoneOf-clause-test
TestCompilable::compile-returns-in_ok-compile_predicates-in-NoneOf-clause-test t c =
    none_compiled (test_shown c.args.self) (any_of (map tests_of c.in-NoneOf.predicates.items)) c.in_ok-compile_predicates-in-NoneOf.field-0
    (ap test_shown c.in-NoneOf.is ∙ test_shown-NoneOf c.in-NoneOf.predicates) c.in_ok-compile_predicates-in-NoneOf.ensures.predicates

pub TestCompilable::compile-returns-in_ok-compile_predicates-in-NoneOf-clause-flag :
    goal.TestCompilable::compile-returns-in_ok-compile_predicates-in-NoneOf-clause-flag
TestCompilable::compile-returns-in_ok-compile_predicates-in-NoneOf-clause-flag t c =
    c.in_ok-compile_predicates-in-NoneOf.ensures.flag
    ∙ ap (λ k. c.args.enable_nth_of_type.now || test_has_type k) (sym (ap test_shown c.in-NoneOf.is ∙ test_shown-NoneOf c.in-NoneOf.predicates))

pub TestCompilable::compile-returns-in_ok-compile_predicates-in-SomeOf-clause-test :
    goal.TestCompilable::compile-returns-in_ok-compile_predicates-in-SomeOf-clause-test
TestCompilable::compile-returns-in_ok-compile_predicates-in-SomeOf-clause-test t c =
    some_compiled (test_shown c.args.self) (any_of (map tests_of c.in-SomeOf.predicates.items)) c.in_ok-compile_predicates-in-SomeOf.field-0
    (ap test_shown c.in-SomeOf.is ∙ test_shown-SomeOf c.in-SomeOf.predicates) c.in_ok-compile_predicates-in-SomeOf.ensures.predicates

pub TestCompilable::compile-returns-in_ok-compile_predicates-in-SomeOf-clause-flag :
    goal.TestCompilable::compile-returns-in_ok-compile_predicates-in-SomeOf-clause-flag
TestCompilable::compile-returns-in_ok-compile_predicates-in-SomeOf-clause-flag t c =
    c.in_ok-compile_predicates-in-SomeOf.ensures.flag
    ∙ ap (λ k. c.args.enable_nth_of_type.now || test_has_type k) (sym (ap test_shown c.in-SomeOf.is ∙ test_shown-SomeOf c.in-SomeOf.predicates))

pub compile_tests-returns-clause-tests : goal.compile_tests-returns-clause-tests
compile_tests-returns-clause-tests t c =
    let left = c.loop-test.test-iterator in
    let none : into_iter_items left ≡ [] = empty_from (into_iter_items left) (sym left.rest.ok.0 ∙ c.in-None.ensures.steps.0) in
    tests_compiled c.loop-test.compiled.items (map test_shown c.args.tests.items)
    (completes_all IsCompiledTest c.loop-test.compiled.items (map test_shown (into_iter_items left)) (map test_shown c.args.tests.items) (ap (map test_shown) none) c.loop-test.invariant.done)
