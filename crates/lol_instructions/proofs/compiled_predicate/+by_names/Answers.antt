use Rattle.std.proofs.Common.{◌≡◌, ◌+◌, length, drop, arith, refl, sym, ap, ◌∙◌}
use Rattle.lol_instructions.specs.Compounds.{value_of_bool, either, opposite}
use Rattle.lol_instructions.specs.Compiled.{sight, name_expr_holds, test_value, all_values, some_values}
use Rattle.lol_instructions.specs.declared.name_value.NameValue.TheVariants.{True, False, Open}
use Rattle.lol_instructions.specs.declared.compiled_predicate.CompiledTest.{CompiledTest}
use Rattle.lol_instructions.specs.declared.compiled_expr.CompiledLocalNameExpr.{CompiledLocalNameExpr}
use Rattle.lol_instructions.specs.CompiledRowLaws.{value_here, value_of_predicate, test_value-NoneOf, test_value-SomeOf}
use Rattle.lol_instructions.proofs.CompiledValues.{drop_all, drop_none, all_true, all_fail, all_open, all_if_last, none_if_last, some_true, some_false, some_open, some_all}
use Rattle.lol_instructions.proofs.compiled_predicate.+by_names.Goals as goal
use Rattle.lol_instructions.proofs.compiled_predicate.+by_names.Goals.{some_by_names-in-False, some_by_names-in-Open}

pub all_by_names-loop-i-init : goal.all_by_names-loop-i-init
all_by_names-loop-i-init t c = record {
  value = sym (ap (all_values (value_here (sight c.args.state.now c.args.local_name.now))) (drop_all c.args.tests.now (length c.args.tests.now) (omega arith)));
  none_fails = refl;
}

pub all_by_names-loop-i-preserved-in-True :
    goal.all_by_names-loop-i-preserved-in-True
all_by_names-loop-i-preserved-in-True t c = record {
  value = all_true (value_here (sight c.args.state.now c.args.local_name.now)) c.args.tests.now c.loop-i.i c.index-tests-i.result c.loop-i.value c.loop-i-test.true
      c.loop-i.auto.i c.index-tests-i.is (sym c.by_names.ensures ∙ c.in-True.is) c.loop-i.invariant.value;
  none_fails = c.loop-i.invariant.none_fails;
}

pub all_by_names-returns-in-False :
    goal.all_by_names-returns-in-False
all_by_names-returns-in-False t c =
    all_fail (value_here (sight c.args.state.now c.args.local_name.now)) c.args.tests.now c.loop-i.i c.index-tests-i.result c.loop-i-test.true
    c.loop-i.auto.i c.index-tests-i.is (sym c.by_names.ensures ∙ c.in-False.is)

pub all_by_names-loop-i-preserved :
    goal.all_by_names-loop-i-preserved
all_by_names-loop-i-preserved t c = record {
  value = all_open (value_here (sight c.args.state.now c.args.local_name.now)) c.args.tests.now c.loop-i.i c.index-tests-i.result c.loop-i.value c.loop-i-test.true
      c.loop-i.auto.i c.index-tests-i.is (sym c.by_names.ensures ∙ c.in-Open.is) c.loop-i.invariant.value c.loop-i.invariant.none_fails;
  none_fails = refl;
}

pub all_by_names-returns : goal.all_by_names-returns
all_by_names-returns t c =
    c.loop-i.invariant.value ∙ ap (all_values (value_here (sight c.args.state.now c.args.local_name.now))) (drop_none c.args.tests.now c.loop-i.i c.loop-i-test.false)

pub CompiledPredicate::by_names-returns-then-not-eval : goal.CompiledPredicate::by_names-returns-then-not-eval
CompiledPredicate::by_names-returns-then-not-eval t c =
    let f = value_here (sight c.args.state.now c.args.local_name.now) in
    let last = c.in-Some-Name-default.field-0-0.now in
    let others = c.in-Some-Name-default.others.now in
    let here : f last ≡ False = ap f c.in-Some-Name-default.field-0-0-is ∙ ap value_of_bool (ap (λ (k : CompiledLocalNameExpr). name_expr_holds k.test (sight c.args.state.now c.args.local_name.now)) (sym c.in-Some-Name-default.last-is) ∙ sym c.eval.ensures ∙ c.if-not-eval.true) in
    sym (ap (all_values f) (sym c.deref.ensures.value ∙ c.in-Some-Name-default.ensures.cases.0) ∙ none_if_last f others last here)

pub CompiledPredicate::by_names-returns-else-is_empty : goal.CompiledPredicate::by_names-returns-else-is_empty
CompiledPredicate::by_names-returns-else-is_empty t c =
    let f = value_here (sight c.args.state.now c.args.local_name.now) in
    let last = c.in-Some-Name-default.field-0-0.now in
    let others = c.in-Some-Name-default.others.now in
    let here : f last ≡ True = ap f c.in-Some-Name-default.field-0-0-is ∙ ap value_of_bool (ap (λ (k : CompiledLocalNameExpr). name_expr_holds k.test (sight c.args.state.now c.args.local_name.now)) (sym c.in-Some-Name-default.last-is) ∙ sym c.eval.ensures ∙ c.if-not-eval.false) in
    c.all_by_names.ensures ∙ sym (ap (all_values f) (sym c.deref.ensures.value ∙ c.in-Some-Name-default.ensures.cases.0) ∙ all_if_last f others last here)

pub CompiledTest::by_names-returns-in-NoneOf : goal.CompiledTest::by_names-returns-in-NoneOf
CompiledTest::by_names-returns-in-NoneOf t c =
    let s = sight c.args.state.now c.args.local_name.now in
    c.opposite.ensures ∙ ap opposite (c.some_by_names.ensures ∙ ap (some_values (value_of_predicate s)) c.deref.ensures.value)
    ∙ sym (ap (λ (test : CompiledTest). test_value test s) c.in-NoneOf.is ∙ test_value-NoneOf s c.in-NoneOf.predicates)

pub CompiledTest::by_names-returns-in-SomeOf : goal.CompiledTest::by_names-returns-in-SomeOf
CompiledTest::by_names-returns-in-SomeOf t c =
    let s = sight c.args.state.now c.args.local_name.now in
    c.some_by_names-in-SomeOf.ensures ∙ ap (some_values (value_of_predicate s)) c.deref-in-SomeOf.ensures.value
    ∙ sym (ap (λ (test : CompiledTest). test_value test s) c.in-SomeOf.is ∙ test_value-SomeOf s c.in-SomeOf.predicates)

pub some_by_names-loop-predicate-init : goal.some_by_names-loop-predicate-init
some_by_names-loop-predicate-init t c = record { value = refl; none_passes = refl }

pub some_by_names-returns-in-True : goal.some_by_names-returns-in-True
some_by_names-returns-in-True t c =
    sym (some_true (value_of_predicate (sight c.args.state.now c.args.local_name.now)) c.args.predicates.now c.loop-predicate.predicate-index c.predicate-item.result c.loop-predicate.value c.loop-predicate-test.true
    c.predicate-item.is (sym c.by_names.ensures ∙ c.in-True.is) c.loop-predicate.invariant.value)

pub some_by_names-loop-predicate-preserved : goal.some_by_names-loop-predicate-preserved
some_by_names-loop-predicate-preserved t c =
    let f = value_of_predicate (sight c.args.state.now c.args.local_name.now) in
    let predicates = c.args.predicates.now in
    let i = c.loop-predicate.predicate-index in
    let x = c.predicate-item.result in
    elim c.match-by_names.branch [
      | some_by_names-in-False w ↦
          let same : c.loop-predicate.value ≡ c.match-by_names.value = sym w.value-is in
          let left = some_values f (drop (i + 1) predicates) in
          record {
            value = some_false f predicates i x c.loop-predicate.value c.loop-predicate-test.true c.predicate-item.is (sym c.by_names.ensures ∙ w.in-False.is) c.loop-predicate.invariant.value ∙ ap (λ v. either v left) same;
            none_passes = ap (λ v. either v Open) (sym same) ∙ c.loop-predicate.invariant.none_passes;
          }
      | some_by_names-in-Open w ↦
          let left = some_values f (drop (i + 1) predicates) in
          record {
            value = some_open f predicates i x c.loop-predicate.value c.loop-predicate-test.true c.predicate-item.is (sym c.by_names.ensures ∙ w.in-Open.is) c.loop-predicate.invariant.none_passes c.loop-predicate.invariant.value ∙ ap (λ v. either v left) (sym w.value-is);
            none_passes = ap (λ v. either v Open) w.value-is;
          }
    ]

pub some_by_names-returns : goal.some_by_names-returns
some_by_names-returns t c =
    sym (some_all (value_of_predicate (sight c.args.state.now c.args.local_name.now)) c.args.predicates.now c.loop-predicate.predicate-index c.loop-predicate.value c.loop-predicate-test.false c.loop-predicate.invariant.value)
