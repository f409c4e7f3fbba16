use Rattle.std.proofs.Common.{map, List, sym, ap, ◌∙◌, take}
use Rattle.lol_base.specs.ListLaws.{mapped_more}
use Rattle.lol_instructions.specs.Compounds.{both, either, opposite, by_names, some_by_names, all_of, any_of}
use Rattle.lol_instructions.specs.Compounds as compounds
use Rattle.lol_program.specs.Predicates.{test_shown, tests_of}
use Rattle.lol_program.specs.declared.predicate.Predicate.{Predicate}
use Rattle.lol_program.specs.PredicateListLaws.{test_shown-NoneOf, test_shown-SomeOf}
use Rattle.lol_vectors.specs.PlainElements.{element_shown}
use Rattle.lol_vectors.proofs.PlainTests.{by_names-push, some_by_names-push}
use Rattle.lol_vectors.proofs.plain_element.+valuing.Goals as goal

pub test_by_names-returns-in-NoneOf : goal.test_by_names-returns-in-NoneOf
test_by_names-returns-in-NoneOf t c =
    let e = element_shown c.args.element.now in
    c.opposite.ensures ∙ ap opposite (c.some_by_names.ensures ∙ ap (λ (l : List Predicate). some_by_names (any_of (map tests_of l)) e) c.deref.ensures.value)
    ∙ sym (ap (λ test. compounds.test_by_names test e) (ap test_shown c.in-NoneOf.is ∙ test_shown-NoneOf c.in-NoneOf.predicates))

pub test_by_names-returns-in-SomeOf : goal.test_by_names-returns-in-SomeOf
test_by_names-returns-in-SomeOf t c =
    let e = element_shown c.args.element.now in
    c.some_by_names-in-SomeOf.ensures ∙ ap (λ (l : List Predicate). some_by_names (any_of (map tests_of l)) e) c.deref-in-SomeOf.ensures.value
    ∙ sym (ap (λ test. compounds.test_by_names test e) (ap test_shown c.in-SomeOf.is ∙ test_shown-SomeOf c.in-SomeOf.predicates))

pub by_names-loop-test-preserved : goal.by_names-loop-test-preserved
by_names-loop-test-preserved t c =
    let e = element_shown c.args.element.now in
    let tests = c.deref-test-items.result.now in
    let i = c.loop-test.test-index in
    let test = c.test-item.result in
    ap (λ l. by_names (all_of l) e) (mapped_more test_shown tests i test c.loop-test-test.true c.test-item.is)
    ∙ by_names-push e (map test_shown (take i tests)) (test_shown test)
    ∙ (λ j. both (c.loop-test.invariant j) (sym c.test_by_names.ensures j)) ∙ sym c.both-value.ensures

pub some_by_names-loop-predicate-preserved : goal.some_by_names-loop-predicate-preserved
some_by_names-loop-predicate-preserved t c =
    let e = element_shown c.args.element.now in
    let predicates = c.args.predicates.now in
    let i = c.loop-predicate.predicate-index in
    let predicate = c.predicate-item.result in
    ap (λ l. some_by_names (any_of l) e) (mapped_more tests_of predicates i predicate c.loop-predicate-test.true c.predicate-item.is)
    ∙ some_by_names-push e (map tests_of (take i predicates)) (tests_of predicate)
    ∙ (λ j. either (c.loop-predicate.invariant j) (sym c.by_names.ensures j)) ∙ sym c.either-value.ensures
