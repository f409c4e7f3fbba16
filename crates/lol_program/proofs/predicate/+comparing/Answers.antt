use Rattle.lol_base.specs.ListLaws.{agreed, agreed_more, at_place, same_length}
use Rattle.std.proofs.Common.{◌≡◌, ◌≤◌, ◌-◌, ⊎_elim, true≢false, refl, arith, length, get_or, map, ap, sym, ◌∙◌, List}
use Rattle.lol_css.specs.declared.selector.SimpleSelector.TheViews.{out-ComplexSelector}
use Rattle.lol_css.specs.declared.selector.Combinator.{Combinator}
use Rattle.lol_css.specs.declared.selector.Compound.{Compound}
use Rattle.lol_css.specs.Trees.{Nothing}
use Rattle.lol_css.specs.TreeViews.{part_of, item_of, compound_of, with_part_list}
use Rattle.lol_css.specs.declared.selector.SimpleSelector.{SimpleSelector}
use Rattle.lol_instructions.specs.Compounds as compounds
use Rattle.lol_instructions.specs.Compounds.{all_of, any_of}
use Rattle.lol_program.specs.declared.predicate.Test.{Test}
use Rattle.lol_program.specs.Conditions.{part_test, item_compound, written_tests}
use Rattle.lol_program.specs.Predicates.{test_shown, tests_of}
use Rattle.lol_program.proofs.Tests.{test_in, compound_in, all_of-equal, any_of-equal, written_tests-parts, items_compounds-items, counts_first, counts_last}
use Rattle.lol_program.specs.PredicateListLaws.{test_shown-NoneOf, test_shown-SomeOf}
use Rattle.lol_program.proofs.TestRows.{same_lists}
use Rattle.lol_program.proofs.predicate.+comparing.Goals as goal
use Rattle.lol_program.proofs.predicate.+comparing.Goals.{Predicate::is_of_item-in-empty, Predicate::is_of_item-in-len1-up}

pub are_of_written-loop-i-preserved : goal.are_of_written-loop-i-preserved
are_of_written-loop-i-preserved t c =
    agreed_more test_shown test_in c.args.tests.now c.args.parts.now c.loop-i.i c.index-tests-i.result c.index-parts-i.result c.loop-i-test.true c.if-tests-parts.false c.index-tests-i.is c.index-parts-i.is
    (c.is_of.ensures.0 c.if-not-is_of.false) c.loop-i.invariant

pub are_of_written-returns : goal.are_of_written-returns
are_of_written-returns t c =
    let tests = c.args.tests.now in
    let parts = c.args.parts.now in
    (λ u. ap all_of (agreed test_shown test_in tests parts c.if-tests-parts.false (λ k a b within. c.loop-i.invariant k a b (omega (arith, within, c.loop-i-test.false)))) ∙ sym (written_tests-parts parts), λ u. refl)

pub are_of_written-returns-then-not-is_of : goal.are_of_written-returns-then-not-is_of
are_of_written-returns-then-not-is_of t c =
    let tests = c.args.tests.now in
    let parts = c.args.parts.now in (
      λ u. absurd (true≢false (sym u)),
      λ e. absurd (true≢false (sym (c.is_of.ensures.1 (ap test_shown c.index-tests-i.is ∙ at_place test_shown test_in tests parts c.loop-i.i c.index-tests-i.result c.index-parts-i.result (all_of-equal _ _ (e ∙ written_tests-parts parts)) c.loop-i-test.true ∙ ap test_in (sym c.index-parts-i.is))) ∙ c.if-not-is_of.true)),
    )

pub are_of_written-returns-then-tests-parts : goal.are_of_written-returns-then-tests-parts
are_of_written-returns-then-tests-parts t c = (
  λ u. absurd (true≢false (sym u)),
  λ e. absurd (c.if-tests-parts.true (same_length test_shown test_in c.args.tests.now c.args.parts.now (all_of-equal _ _ (e ∙ written_tests-parts c.args.parts.now)))),
)

pub are_of_items-loop-i-preserved : goal.are_of_items-loop-i-preserved
are_of_items-loop-i-preserved t c =
    agreed_more tests_of compound_in c.args.predicates.now c.args.items.now c.loop-i.i c.index-predicates-i.result c.index-items-i.result c.loop-i-test.true c.if-predicates-items.false c.index-predicates-i.is c.index-items-i.is
    (c.is_of_item.ensures.0 c.if-not-is_of_item.false) c.loop-i.invariant

pub are_of_items-returns : goal.are_of_items-returns
are_of_items-returns t c =
    let predicates = c.args.predicates.now in
    let items = c.args.items.now in
    (λ u. ap any_of (agreed tests_of compound_in predicates items c.if-predicates-items.false (λ k a b within. c.loop-i.invariant k a b (omega (arith, within, c.loop-i-test.false)))) ∙ sym (items_compounds-items items), λ u. refl)

pub are_of_items-returns-then-not-is_of_item : goal.are_of_items-returns-then-not-is_of_item
are_of_items-returns-then-not-is_of_item t c =
    let predicates = c.args.predicates.now in
    let items = c.args.items.now in (
      λ u. absurd (true≢false (sym u)),
      λ e. absurd (true≢false (sym (c.is_of_item.ensures.1 (ap tests_of c.index-predicates-i.is ∙ at_place tests_of compound_in predicates items c.loop-i.i c.index-predicates-i.result c.index-items-i.result (any_of-equal _ _ (e ∙ items_compounds-items items)) c.loop-i-test.true ∙ ap compound_in (sym c.index-items-i.is))) ∙ c.if-not-is_of_item.true)),
    )

pub are_of_items-returns-then-predicates-items : goal.are_of_items-returns-then-predicates-items
are_of_items-returns-then-predicates-items t c = (
  λ u. absurd (true≢false (sym u)),
  λ e. absurd (c.if-predicates-items.true (same_length tests_of compound_in c.args.predicates.now c.args.items.now (any_of-equal _ _ (e ∙ items_compounds-items c.args.items.now)))),
)

pub Predicate::is_of_item-returns : goal.Predicate::is_of_item-returns
Predicate::is_of_item-returns t c =
    let item = c.args.item.now in
    let compound = c.if-as_slice-lt1.compound.now in
    let rest = (out-ComplexSelector item).rest.items in
    let counts : item_compound (item_of item) ≡ written_tests (compound_of compound) =
    elim c.if-as_slice-lt1.branch [
      | Predicate::is_of_item-in-empty w ↦
          counts_first item (omega (arith, ap length c.as_slice.ensures.value, w.in-empty.len_below)) ∙ ap (λ (k : Compound). written_tests (compound_of k)) (sym (ap (λ b. b.now) w.compound-is))
      | Predicate::is_of_item-in-len1-up w ↦
          let last = w.index-last.result in
          let some : 1 ≤ length rest = omega (arith, ap length c.as_slice.ensures.value, w.in-len1-up.len_at_least) in
          let at : last ≡ get_or rest (length rest - 1) last = w.index-last.is ∙ ap (λ (l : List (Combinator × Compound)). get_or l (length l - 1) last) c.as_slice.ensures.value in
          counts_last item last some at ∙ ap (λ (k : Compound). written_tests (compound_of k)) (sym (ap (λ b. b.now) w.compound-is ∙ ap (λ (l : Combinator × Compound). l.1) (sym w.index-last.is)))
    ] in
    let shown = ap (λ (l : List Test). all_of (map test_shown l)) c.deref.ensures.value in
    let parts = ap (λ (l : List SimpleSelector). written_tests (with_part_list Nothing l)) c.deref-2.ensures.value in
    (λ r. sym shown ∙ c.are_of_written.ensures.0 r ∙ parts ∙ sym counts, λ e. c.are_of_written.ensures.1 (shown ∙ e ∙ counts ∙ sym parts))

pub Test::is_of-returns-in-Negation : goal.Test::is_of-returns-in-Negation
Test::is_of-returns-in-Negation t c =
    same_lists compounds.NoneOf (λ a b e. cc) c.are_of_items.result (test_shown c.args.self.now) (part_test (part_of c.args.part.now)) c.deref.result.now c.deref-in-Negation.result.now c.in-NoneOf.predicates c.in-Negation.list
    (ap test_shown c.in-NoneOf.is ∙ test_shown-NoneOf c.in-NoneOf.predicates) (ap (λ (p : SimpleSelector). part_test (part_of p)) c.in-Negation.is) c.deref.ensures.value c.deref-in-Negation.ensures.value c.are_of_items.ensures

pub Test::is_of-returns-in-Is : goal.Test::is_of-returns-in-Is
Test::is_of-returns-in-Is t c =
    same_lists compounds.SomeOf (λ a b e. cc) c.are_of_items-in-Is.result (test_shown c.args.self.now) (part_test (part_of c.args.part.now)) c.deref-in-Is.result.now c.deref-in-Is-2.result.now c.in-SomeOf.predicates c.in-Is.list
    (ap test_shown c.in-SomeOf.is ∙ test_shown-SomeOf c.in-SomeOf.predicates)
    (⊎_elim (λ e. ap (λ (p : SimpleSelector). part_test (part_of p)) e) (λ e. ap (λ (p : SimpleSelector). part_test (part_of p)) e) c.in-Is.is) c.deref-in-Is.ensures.value c.deref-in-Is-2.ensures.value c.are_of_items-in-Is.ensures
