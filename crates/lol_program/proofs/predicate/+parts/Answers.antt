use Rattle.lol_base.specs.ListLaws.{mapped_more, mapped_all}
use Rattle.std.proofs.Common.{◌≡◌, ◌≤◌, ◌-◌, ◌∷◌, [], ◌++◌, arith, length, get_or, map, ap, sym, ◌∙◌, ⊎_elim, List}
use Rattle.std.proofs.lemmas.List.{map-append}
use Rattle.lol_css.specs.declared.selector.SimpleSelector.TheViews.{out-ComplexSelector}
use Rattle.lol_css.specs.declared.selector.Combinator.{Combinator}
use Rattle.lol_css.specs.declared.selector.Compound.{Compound}
use Rattle.lol_css.specs.TreeViews.{part_of, compound_of}
use Rattle.lol_css.specs.declared.selector.SimpleSelector.{SimpleSelector}
use Rattle.lol_instructions.specs.Compounds.{NoneOf, SomeOf, all_of, any_of}
use Rattle.lol_program.specs.Conditions.{part_test, written_tests}
use Rattle.lol_program.specs.Predicates.{test_shown, tests_of}
use Rattle.lol_program.specs.PredicateListLaws.{test_shown-NoneOf, test_shown-SomeOf}
use Rattle.lol_program.proofs.Tests.{test_in, compound_in, written_tests-parts, items_compounds-items, items_compounds-list, counts_first, counts_last}
use Rattle.lol_program.proofs.predicate.+parts.Goals as goal
use Rattle.lol_program.proofs.predicate.+parts.Goals.{Predicate::from_item-in-empty, Predicate::from_item-in-len1-up}

pub Predicate::from_item-loop-part-preserved : goal.Predicate::from_item-loop-part-preserved
Predicate::from_item-loop-part-preserved t c =
    ap (map test_shown) c.in_ok-push.ensures.items ∙ map-append test_shown c.loop-part.tests.items _ ∙ (λ i. c.loop-part.invariant i ++ c.in_ok-from_part.ensures i ∷ [])
    ∙ sym (mapped_more test_in c.deref-part-items.result.now c.loop-part.part-index c.part-item.result c.loop-part-test.true c.part-item.is)

pub Predicate::from_item-returns : goal.Predicate::from_item-returns
Predicate::from_item-returns t c =
    let item = c.args.item.now in
    let compound = c.if-as_slice-lt1.compound.now in
    let rest = (out-ComplexSelector item).rest.items in
    let written : all_of (map test_shown c.loop-part.tests.items) ≡ written_tests (compound_of compound) =
    ap all_of (c.loop-part.invariant ∙ mapped_all test_in c.deref-part-items.result.now c.loop-part.part-index c.loop-part-test.false ∙ ap (map test_in) c.deref-part-items.ensures.value)
    ∙ sym (written_tests-parts compound.parts.items) in
    written ∙ elim c.if-as_slice-lt1.branch [
      | Predicate::from_item-in-empty w ↦
          ap (λ (k : Compound). written_tests (compound_of k)) (ap (λ b. b.now) w.compound-is) ∙ sym (counts_first item (omega (arith, ap length c.as_slice.ensures.value, w.in-empty.len_below)))
      | Predicate::from_item-in-len1-up w ↦
          let last = w.index-last.result in
          let some : 1 ≤ length rest = omega (arith, ap length c.as_slice.ensures.value, w.in-len1-up.len_at_least) in
          let at : last ≡ get_or rest (length rest - 1) last = w.index-last.is ∙ ap (λ (l : List (Combinator × Compound)). get_or l (length l - 1) last) c.as_slice.ensures.value in
          ap (λ (k : Compound). written_tests (compound_of k)) (ap (λ b. b.now) w.compound-is ∙ ap (λ (l : Combinator × Compound). l.1) (sym w.index-last.is)) ∙ sym (counts_last item last some at)
    ]

pub predicates_of-loop-item-preserved : goal.predicates_of-loop-item-preserved
predicates_of-loop-item-preserved t c =
    ap (map tests_of) c.in_ok-push.ensures.items ∙ map-append tests_of c.loop-item.predicates.items _ ∙ (λ i. c.loop-item.invariant i ++ c.in_ok-from_item.ensures i ∷ [])
    ∙ sym (mapped_more compound_in c.deref-item-items.result.now c.loop-item.item-index c.item-item.result c.loop-item-test.true c.item-item.is)

pub predicates_of-returns : goal.predicates_of-returns
predicates_of-returns t c =
    ap any_of (c.loop-item.invariant ∙ mapped_all compound_in c.deref-item-items.result.now c.loop-item.item-index c.loop-item-test.false ∙ ap (map compound_in) c.deref-item-items.ensures.value)
    ∙ sym (items_compounds-list c.args.list.now ∙ items_compounds-items _)

pub Test::from_part-returns-in_ok-predicates_of-in-Negation : goal.Test::from_part-returns-in_ok-predicates_of-in-Negation
Test::from_part-returns-in_ok-predicates_of-in-Negation t c =
    test_shown-NoneOf c.in_ok-predicates_of-in-Negation.field-0 ∙ ap NoneOf c.in_ok-predicates_of-in-Negation.ensures ∙ ap (λ (p : SimpleSelector). part_test (part_of p)) (sym c.in-Negation.is)

pub Test::from_part-returns-in_ok-predicates_of-in-Is : goal.Test::from_part-returns-in_ok-predicates_of-in-Is
Test::from_part-returns-in_ok-predicates_of-in-Is t c =
    test_shown-SomeOf c.in_ok-predicates_of-in-Is.field-0 ∙ ap SomeOf c.in_ok-predicates_of-in-Is.ensures
    ∙ ⊎_elim (λ e. ap (λ (p : SimpleSelector). part_test (part_of p)) (sym e)) (λ e. ap (λ (p : SimpleSelector). part_test (part_of p)) (sym e)) c.in-Is.is
