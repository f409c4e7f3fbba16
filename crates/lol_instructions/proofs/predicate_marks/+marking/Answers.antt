use Rattle.std.proofs.Common.{◌≡◌, Bool, true, List, ◌∷◌, [], take, ◌&&◌, subst, sym, ap, ◌∙◌}
use Rattle.lol_instructions.specs.Compiled.{test_value, test_holds, all_values, some_values}
use Rattle.lol_instructions.specs.Compounds.{both, opposite}
use Rattle.lol_instructions.specs.declared.name_value.NameValue.TheVariants.{True, Open}
use Rattle.lol_instructions.specs.declared.predicate_marks.Shape.TheVariants.{Anywhere}
use Rattle.lol_instructions.specs.declared.compiled_predicate.CompiledTest.{CompiledTest}
use Rattle.lol_instructions.specs.PredicateMarks.{AreMarksOf}
use Rattle.lol_instructions.specs.CompiledRowLaws.{value_of_predicate, test_value-NoneOf, test_value-SomeOf}
use Rattle.lol_instructions.proofs.PredicateMarkLemmas.{marks_more, marks_whole, some_more, marks_of_value}
use Rattle.lol_instructions.proofs.predicate_marks.+marking.Goals as goal

pub PredicateMarks::of-loop-test-init : goal.PredicateMarks::of-loop-test-init
PredicateMarks::of-loop-test-init t c =
    subst (λ (tests : List CompiledTest). AreMarksOf c.of_test-marks.result (take 1 tests)) (sym c.in-Some.ensures.cases.0) c.of_test-marks.ensures

pub PredicateMarks::of-loop-test-preserved : goal.PredicateMarks::of-loop-test-preserved
PredicateMarks::of-loop-test-preserved t c =
    let first = c.in-Some.first.now in
    let others = c.in-Some.others.now in
    let x = c.test-item.result in
    marks_more c.args.tests.now first others c.in-Some.ensures.cases.0 c.loop-test.marks c.and-marks.result c.loop-test.test-index x c.loop-test-test.true c.test-item.is c.loop-test.invariant
    (λ before. c.and-marks.ensures (first ∷ take c.loop-test.test-index others) (x ∷ []) before c.of_test.ensures)

pub PredicateMarks::of-returns : goal.PredicateMarks::of-returns
PredicateMarks::of-returns t c =
    marks_whole c.args.tests.now c.in-Some.first.now c.in-Some.others.now c.in-Some.ensures.cases.0 c.loop-test.marks c.loop-test.test-index c.loop-test-test.false c.loop-test.invariant

pub PredicateMarks::of_test-returns-in-Attribute : goal.PredicateMarks::of_test-returns-in-Attribute
PredicateMarks::of_test-returns-in-Attribute t c = record {
  value = λ s v said. let here : test_value c.args.test.now s ≡ Open = ap (λ (test : CompiledTest). test_value test s) c.in-Attribute.is in ap (λ w. both w True) here ∙ (let e : Open ≡ v = cc in e);
  needs = λ bit marked s seen none.
      ap (λ (test : CompiledTest). test_holds test s seen && true) c.in-Attribute.is ∙ ap (λ (b : Bool). b && true) (c.needs_of.ensures bit marked s seen none);
}

pub PredicateMarks::of_test-returns-in-Some : goal.PredicateMarks::of_test-returns-in-Some
PredicateMarks::of_test-returns-in-Some t c =
    marks_of_value c.of_shape.result c.args.test.now (opposite c.in-Some.value) c.of_shape.ensures.head (c.of_shape.ensures.shape ∙ ap Anywhere c.opposite.ensures) c.of_shape.ensures.needs
    (λ s. ap (λ (test : CompiledTest). test_value test s) c.in-NoneOf.is ∙ test_value-NoneOf s c.in-NoneOf.predicates
    ∙ ap opposite (ap (some_values (value_of_predicate s)) (sym c.deref.ensures.value) ∙ c.value_of_some.ensures c.in-Some.value c.in-Some.is s))

pub PredicateMarks::of_test-returns-in-Some-value_of_some : goal.PredicateMarks::of_test-returns-in-Some-value_of_some
PredicateMarks::of_test-returns-in-Some-value_of_some t c =
    let inner = c.in-Some-value_of_some in
    marks_of_value c.of_shape-in-Some-value_of_some.result c.args.test.now inner.value c.of_shape-in-Some-value_of_some.ensures.head c.of_shape-in-Some-value_of_some.ensures.shape c.of_shape-in-Some-value_of_some.ensures.needs
    (λ s. ap (λ (test : CompiledTest). test_value test s) c.in-SomeOf.is ∙ test_value-SomeOf s c.in-SomeOf.predicates
    ∙ ap (some_values (value_of_predicate s)) (sym c.deref-in-SomeOf.ensures.value) ∙ c.value_of_some-in-SomeOf.ensures inner.value inner.is s)

pub value_of_some-loop-predicate-preserved : goal.value_of_some-loop-predicate-preserved
value_of_some-loop-predicate-preserved t c s =
    let x = c.predicate-item.result in
    let other = c.in_ok-value_of_all.field-0 in
    let said : all_values (λ test. test_value test s) c.deref.result.now ≡ other = c.of.ensures.value s other (c.value_of_all.ensures other c.in_ok-value_of_all.was s) in
    some_more s c.args.predicates.now c.loop-predicate.predicate-index x c.loop-predicate.value other c.or-value.result c.loop-predicate-test.true c.predicate-item.is (c.loop-predicate.invariant s)
    (ap (all_values (λ test. test_value test s)) (sym c.deref.ensures.value) ∙ said) c.or-value.ensures
