use Rattle.std.proofs.Common.{◌<◌, length, refl, ◌++◌, [], ◌∷◌, map, take, sym, ap, ◌∙◌, subst, append_assoc, append-nil}
use Rattle.std.proofs.lemmas.List.{take_all}
use Rattle.lol_css.specs.TreeViews.{list_of}
use Rattle.lol_css.specs.declared.selector.SelectorList.{SelectorList}
use Rattle.lol_program.specs.Conditions.{paths_of}
use Rattle.lol_reasons.proofs.Growing.{one_more_item, paths_in, same_error, text_step}
use Rattle.lol_reasons.specs.Explanations.{added_items}
use Rattle.lol_reasons.specs.Numbered.{HoldsItems, item_path}
use Rattle.lol_reasons.proofs.texts.Numbering.add_text.Goals as goal

pub loop-item_number-init : goal.loop-item_number-init
loop-item_number-init c = record {
  added = λ added holds. subst (λ l. HoldsItems l c.args.self.now) (sym (append-nil added)) holds;
  rows = refl;
}

pub loop-item_number-preserved : goal.loop-item_number-preserved
loop-item_number-preserved c =
    let i = c.loop-item_number.item_number in
    let items = c.deref-item-items.result.now in
    let before = added_items c.args.text.now.id c.args.number 0 (map item_path (take i items)) in
    record {
      added = λ added holds.
          subst (λ l. HoldsItems l c.add_item.new.self)
          (append_assoc added before (_ ∷ []) ∙ ap (λ l. added ++ l) (sym (text_step item_path c.args.text.now.id c.args.number i items c.item-item.result c.loop-item_number-test.true c.item-item.is)))
          (c.in_ok-add_item.ensures.added (added ++ before) (c.loop-item_number.invariant.added added holds));
      rows = c.in_ok-add_item.ensures.rows ∙ c.loop-item_number.invariant.rows;
    }

pub returns-clause-added : goal.returns-clause-added
returns-clause-added c = λ added holds.
    let all = ap (map item_path) (take_all c.loop-item_number.item_number c.deref-item-items.result.now c.loop-item_number-test.false) in
    let paths = ap (map item_path) c.deref-item-items.ensures.value ∙ sym (paths_in c.list.result.now) ∙ ap (λ (l : SelectorList). paths_of (list_of l)) c.list.ensures in
    subst (λ l. HoldsItems (added ++ added_items c.args.text.now.id c.args.number 0 l) c.loop-item_number.self) (all ∙ paths) (c.loop-item_number.invariant.added added holds)

pub returns-clause-rows : goal.returns-clause-rows
returns-clause-rows c = c.loop-item_number.invariant.rows

pub returns-in_err-add_item-clause-rows : goal.returns-in_err-add_item-clause-rows
returns-in_err-add_item-clause-rows c = c.in_err-add_item.ensures.rows ∙ c.loop-item_number.invariant.rows

pub returns-in_err-add_item-clause-too_many : goal.returns-in_err-add_item-clause-too_many
returns-in_err-add_item-clause-too_many c = λ is added holds.
    let i = c.loop-item_number.item_number in
    let items = c.deref-item-items.result.now in
    let before = added_items c.args.text.now.id c.args.number 0 (map item_path (take i items)) in
    let paths = ap (map item_path) c.deref-item-items.ensures.value ∙ sym (paths_in c.list.result.now) ∙ ap (λ (l : SelectorList). paths_of (list_of l)) c.list.ensures in
    let many = c.in_err-add_item.ensures.too_many (same_error _ c.in_err-add_item.field-0.0 c.from_residual.ensures.1 is) (added ++ before) (c.loop-item_number.invariant.added added holds) in
    subst (λ l. 4294967296 < length (added ++ added_items c.args.text.now.id c.args.number 0 l)) paths
    (one_more_item item_path added c.args.text.now.id c.args.number i 4294967295 items c.loop-item_number-test.true many)
