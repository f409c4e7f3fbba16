use Rattle.std.proofs.Common.{◌≡◌, ◌+◌, ◌++◌, Some, None, All, map, drop, length-drop, subst, ap, sym, ◌∙◌, position, arith}
use Rattle.std.specs.List.{slice_split}
use Rattle.std.proofs.lemmas.List.{take_rest}
use Rattle.std.proofs.lemmas.List.Elements.{All-push}
use Rattle.lol_base.specs.StartTags.{attribute_of, OutlineIsInside}
use Rattle.lol_script.specs.Script.{is_named, is_tab, attribute_at}
use Rattle.lol_script.proofs.Fields.{within_some}
use Rattle.lol_script.proofs.Outlines.{attributes_more, attributes_last, names_more, names_last}
use Rattle.lol_script.proofs.tags.fill_outlines.Goals as goal

pub loop-offset-preserved : goal.loop-offset-preserved
loop-offset-preserved c =
    let text = c.args.text.now in
    let start = c.loop-offset.start in
    let offset = c.in-Some.offset in
    let found : position is_tab (drop start text) ≡ Some offset = sym (c.in-Some.ensures ∙ ap (position is_tab) (take_rest text start)) in
    let items = c.in_ok-push.ensures.items in
    record {
      within = omega (arith, within_some (drop start text) offset found, length-drop start text, c.loop-offset.invariant.within);
      attributes =
          ap (λ outlines. map (attribute_of text) outlines ++ map attribute_at (slice_split is_tab (drop (start + (offset + 1)) text))) items
          ∙ (attributes_more text c.loop-offset.outlines.items c.outline_of.result start offset found c.outline_of.ensures.attribute ∙ c.loop-offset.invariant.attributes);
      named =
          names_more text start c.loop-offset.named c.has_name-named.result offset found c.has_name-named.ensures ∙ c.loop-offset.invariant.named;
      inside =
          subst (All (OutlineIsInside text)) (sym items)
          (All-push (OutlineIsInside text) c.loop-offset.outlines.items c.outline_of.result c.loop-offset.invariant.inside c.outline_of.ensures.inside);
    }

pub returns-clause-attributes : goal.returns-clause-attributes
returns-clause-attributes c =
    let text = c.args.text.now in
    let start = c.loop-offset.start in
    let none : position is_tab (drop start text) ≡ None = sym (c.in_default.ensures ∙ ap (position is_tab) (take_rest text start)) in
    ap (map (attribute_of text)) c.in_ok-push-2.ensures.items
    ∙ (attributes_last text c.loop-offset.outlines.items c.outline_of-2.result start none c.outline_of-2.ensures.attribute ∙ c.loop-offset.invariant.attributes)

pub returns-clause-named : goal.returns-clause-named
returns-clause-named c =
    let text = c.args.text.now in
    let start = c.loop-offset.start in
    let none : position is_tab (drop start text) ≡ None = sym (c.in_default.ensures ∙ ap (position is_tab) (take_rest text start)) in
    names_last text start c.loop-offset.named c.has_name-named-2.result none (c.has_name-named-2.ensures ∙ ap (λ f. is_named (attribute_at f)) (take_rest text start)) ∙ c.loop-offset.invariant.named
