use Rattle.lol_base.specs.ListLaws.{passes_more, passes_not, fails_more, passes_some, fails_all}
use Rattle.lol_base.specs.ListLaws as lists
use Rattle.std.proofs.lemmas.Result.{IfOk-weaker}
use Rattle.std.proofs.Common.{map, not, List, sym, ap, ◌∙◌}
use Rattle.lol_instructions.specs.Compounds.{holds, all_hold, some_hold, all_of, any_of}
use Rattle.lol_program.specs.Predicates.{test_shown, tests_of}
use Rattle.lol_program.specs.declared.predicate.Test.{Test}
use Rattle.lol_program.specs.declared.predicate.Predicate.{Predicate}
use Rattle.lol_program.specs.PredicateListLaws.{test_shown-NoneOf, test_shown-SomeOf}
use Rattle.lol_vectors.specs.PlainElements.{element_shown}
use Rattle.lol_vectors.proofs.PlainTests.{passes, passes_all, all_hold-list, some_hold-list}
use Rattle.lol_vectors.proofs.plain_element.+passing.Goals as goal

pub test_passes-returns-in_ok-some_pass-in-NoneOf : goal.test_passes-returns-in_ok-some_pass-in-NoneOf
test_passes-returns-in_ok-some_pass-in-NoneOf t c =
    let e = element_shown c.args.element.now in
    ap not (c.in_ok-some_pass-in-NoneOf.ensures ∙ ap (λ (l : List Predicate). some_hold (any_of (map tests_of l)) e) c.deref.ensures.value)
    ∙ sym (ap (λ test. holds test e) (ap test_shown c.in-NoneOf.is ∙ test_shown-NoneOf c.in-NoneOf.predicates))

pub test_passes-returns-in-SomeOf : goal.test_passes-returns-in-SomeOf
test_passes-returns-in-SomeOf t c =
    let e = element_shown c.args.element.now in
    let same = ap (λ (l : List Predicate). some_hold (any_of (map tests_of l)) e) c.deref-in-SomeOf.ensures.value
    ∙ sym (ap (λ test. holds test e) (ap test_shown c.in-SomeOf.is ∙ test_shown-SomeOf c.in-SomeOf.predicates)) in
    IfOk-weaker c.some_pass-in-SomeOf.result _ _ (λ passes told. told ∙ same) c.some_pass-in-SomeOf.ensures

pub predicate_passes-returns-then-not-branch : goal.predicate_passes-returns-then-not-branch
predicate_passes-returns-then-not-branch t c =
    let e = element_shown c.args.element.now in
    sym (ap (λ (l : List Test). all_hold (all_of (map test_shown l)) e) (sym c.deref-test-items.ensures.value) ∙ all_hold-list e c.deref-test-items.result.now
    ∙ passes_not (passes e) c.deref-test-items.result.now c.loop-test.test-index c.test-item.result c.loop-test-test.true c.test-item.is (sym c.in_ok-test_passes.ensures ∙ c.if-not-branch.true))

pub some_pass-returns-then-branch : goal.some_pass-returns-then-branch
some_pass-returns-then-branch t c =
    let e = element_shown c.args.element.now in
    sym (some_hold-list e c.args.predicates.now
    ∙ passes_some (passes_all e) c.args.predicates.now c.loop-predicate.predicate-index c.predicate-item.result c.loop-predicate-test.true c.predicate-item.is (sym c.in_ok-predicate_passes.ensures ∙ c.if-branch.true))

pub predicate_passes-returns : goal.predicate_passes-returns
predicate_passes-returns t c =
    let e = element_shown c.args.element.now in
    sym (ap (λ (l : List Test). all_hold (all_of (map test_shown l)) e) (sym c.deref-test-items.ensures.value) ∙ all_hold-list e c.deref-test-items.result.now
    ∙ lists.passes_all (passes e) c.deref-test-items.result.now c.loop-test.test-index c.loop-test-test.false c.loop-test.invariant)

pub some_pass-returns : goal.some_pass-returns
some_pass-returns t c =
    let e = element_shown c.args.element.now in
    sym (some_hold-list e c.args.predicates.now ∙ fails_all (passes_all e) c.args.predicates.now c.loop-predicate.predicate-index c.loop-predicate-test.false c.loop-predicate.invariant)
