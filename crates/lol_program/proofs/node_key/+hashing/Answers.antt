use Rattle.lol_base.specs.ListLaws.{mapped_all}
use Rattle.std.proofs.Common.{◌≡◌, ◌≤◌, ◌-◌, arith, length, get_or, map, ap, sym, ◌∙◌, List}
use Rattle.std.specs.Prelude.{fold}
use Rattle.lol_css.specs.declared.selector.SimpleSelector.TheViews.{out-ComplexSelector, out-SelectorList}
use Rattle.lol_css.specs.declared.selector.Combinator.{Combinator}
use Rattle.lol_css.specs.declared.selector.Compound.{Compound}
use Rattle.lol_css.specs.TreeViews.{item_of, compound_of}
use Rattle.lol_program.specs.Conditions.{item_compound, written_tests}
use Rattle.lol_program.specs.NodeKeys.{byte_hashed, test_hashed, compound_hashed, compounds_hashed}
use Rattle.lol_program.proofs.Keys.{all_hashed, any_hashed}
use Rattle.lol_program.proofs.Tests.{test_in, compound_in, written_tests-parts, items_compounds-items, items_compounds-list, counts_first, counts_last}
use Rattle.lol_program.proofs.node_key.+hashing.Goals as goal
use Rattle.lol_program.proofs.node_key.+hashing.Goals.{hash_item-in-empty, hash_item-in-len1-up}

pub hash_item-returns : goal.hash_item-returns
hash_item-returns t c =
    let item = c.args.item.now in
    let hasher = c.args.hasher.now in
    let compound = c.if-as_slice-lt1.compound.now in
    let parts = compound.parts.items in
    let rest = (out-ComplexSelector item).rest.items in
    let counts : item_compound (item_of item) ≡ written_tests (compound_of compound) =
    elim c.if-as_slice-lt1.branch [
      | hash_item-in-empty w ↦
          counts_first item (omega (arith, ap length c.as_slice.ensures.value, w.in-empty.len_below)) ∙ ap (λ (k : Compound). written_tests (compound_of k)) (sym (ap (λ b. b.now) w.compound-is))
      | hash_item-in-len1-up w ↦
          let last = w.index-last.result in
          let some : 1 ≤ length rest = omega (arith, ap length c.as_slice.ensures.value, w.in-len1-up.len_at_least) in
          let at : last ≡ get_or rest (length rest - 1) last = w.index-last.is ∙ ap (λ (l : List (Combinator × Compound)). get_or l (length l - 1) last) c.as_slice.ensures.value in
          counts_last item last some at ∙ ap (λ (k : Compound). written_tests (compound_of k)) (sym (ap (λ b. b.now) w.compound-is ∙ ap (λ (l : Combinator × Compound). l.1) (sym w.index-last.is)))
    ] in
    let hashed = c.loop-part.invariant ∙ ap (fold test_hashed hasher) (mapped_all test_in c.deref-part-items.result.now c.loop-part.part-index c.loop-part-test.false ∙ ap (map test_in) c.deref-part-items.ensures.value) in
    c.write_u8.ensures ∙ ap (λ h. byte_hashed h 255) hashed ∙ sym (all_hashed hasher (map test_in parts)) ∙ ap (compound_hashed hasher) (sym (written_tests-parts parts) ∙ sym counts)

pub hash_list-returns : goal.hash_list-returns
hash_list-returns t c =
    let list = c.args.list.now in
    let written = (out-SelectorList list).items.items in
    let hasher = c.args.hasher.now in
    let items = c.deref-item-items.result.now in
    let hashed = c.loop-item.invariant ∙ ap (fold compound_hashed hasher) (mapped_all compound_in items c.loop-item.item-index c.loop-item-test.false ∙ ap (map compound_in) c.deref-item-items.ensures.value) in
    c.write_u8.ensures ∙ ap (λ h. byte_hashed h 255) hashed ∙ sym (any_hashed hasher (map compound_in written)) ∙ ap (compounds_hashed hasher) (sym (items_compounds-list list ∙ items_compounds-items written))
