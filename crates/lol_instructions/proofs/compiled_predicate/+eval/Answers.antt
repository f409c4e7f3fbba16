use Rattle.std.proofs.Common.{not, arith, refl, sym, ap, ◌∙◌}
use Rattle.std.specs.List.{list_any, list_all}
use Rattle.lol_instructions.specs.Compiled.{sight, test_holds}
use Rattle.lol_instructions.specs.declared.compiled_predicate.CompiledTest.{CompiledTest}
use Rattle.lol_instructions.specs.CompiledRowLaws.{passes, passes_predicate, test_holds-NoneOf, test_holds-SomeOf}
use Rattle.lol_instructions.proofs.CompiledValues.{drop_all, drop_none, holds_from, none_yet}
use Rattle.lol_instructions.proofs.compiled_predicate.+eval.Goals as goal

pub CompiledPredicate::eval-loop-i-init : goal.CompiledPredicate::eval-loop-i-init
CompiledPredicate::eval-loop-i-init t c =
    ap (list_all (passes (sight c.args.state.now c.args.local_name.now) c.args.matcher.now)) (drop_all c.args.self.now.tests.items c.len-i.result (omega (arith, c.len-i.ensures)))

pub CompiledPredicate::eval-loop-i-preserved : goal.CompiledPredicate::eval-loop-i-preserved
CompiledPredicate::eval-loop-i-preserved t c =
    holds_from (passes (sight c.args.state.now c.args.local_name.now) c.args.matcher.now) c.args.self.now.tests.items c.loop-i.i c.index.result.now c.loop-i-test.true
    (omega (arith, c.len-i.ensures, c.loop-i.auto.i)) c.index.ensures (sym c.eval.ensures ∙ c.if-not-eval.false) c.loop-i.invariant

pub CompiledPredicate::eval-returns : goal.CompiledPredicate::eval-returns
CompiledPredicate::eval-returns t c =
    sym (ap (list_all (passes (sight c.args.state.now c.args.local_name.now) c.args.matcher.now)) (sym (drop_none c.args.self.now.tests.items c.loop-i.i c.loop-i-test.false)) ∙ c.loop-i.invariant)

pub CompiledTest::eval-returns-in-NoneOf : goal.CompiledTest::eval-returns-in-NoneOf
CompiledTest::eval-returns-in-NoneOf t c =
    let s = sight c.args.state.now c.args.local_name.now in
    ap not (c.some_hold.ensures ∙ ap (list_any (passes_predicate s c.args.matcher.now)) c.deref.ensures.value)
    ∙ sym (ap (λ (test : CompiledTest). test_holds test s c.args.matcher.now) c.in-NoneOf.is ∙ test_holds-NoneOf s c.args.matcher.now c.in-NoneOf.predicates)

pub CompiledTest::eval-returns-in-SomeOf : goal.CompiledTest::eval-returns-in-SomeOf
CompiledTest::eval-returns-in-SomeOf t c =
    let s = sight c.args.state.now c.args.local_name.now in
    c.some_hold-in-SomeOf.ensures ∙ ap (list_any (passes_predicate s c.args.matcher.now)) c.deref-in-SomeOf.ensures.value
    ∙ sym (ap (λ (test : CompiledTest). test_holds test s c.args.matcher.now) c.in-SomeOf.is ∙ test_holds-SomeOf s c.args.matcher.now c.in-SomeOf.predicates)

pub some_hold-loop-predicate-init : goal.some_hold-loop-predicate-init
some_hold-loop-predicate-init t c = refl

pub some_hold-loop-predicate-preserved : goal.some_hold-loop-predicate-preserved
some_hold-loop-predicate-preserved t c =
    none_yet (passes_predicate (sight c.args.state.now c.args.local_name.now) c.args.matcher.now) c.args.predicates.now c.loop-predicate.predicate-index c.predicate-item.result
    c.loop-predicate-test.true c.predicate-item.is (sym c.eval.ensures ∙ c.if-eval.false) c.loop-predicate.invariant

pub some_hold-returns : goal.some_hold-returns
some_hold-returns t c =
    sym (c.loop-predicate.invariant
    ∙ ap (list_any (passes_predicate (sight c.args.state.now c.args.local_name.now) c.args.matcher.now)) (drop_all c.args.predicates.now c.loop-predicate.predicate-index c.loop-predicate-test.false))
