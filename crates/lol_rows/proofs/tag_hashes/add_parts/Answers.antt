use Rattle.std.proofs.Common.{◌≡◌, ℕ, ◌⊎◌, inl, inr, Contains, List, [], ap, sym, subst, ◌∙◌, take}
use Rattle.std.specs.Prelude.{unwrap_or}
use Rattle.std.specs.Option.{option_copied}
use Rattle.std.proofs.lemmas.List.{take_all}
use Rattle.lol_base.specs.StartTags.{Attribute}
use Rattle.lol_rows.specs.TagHashes.{HoldsParts}
use Rattle.lol_rows.proofs.PairLemmas.{none_there}
use Rattle.lol_rows.proofs.PartLemmas.{IsAttribute, attribute_found, next_attribute, parts_kept, parts_only}
use Rattle.lol_rows.proofs.tag_hashes.add_parts.Goals as goal

pub returns-in_err-add_parts_after-clause-only : goal.returns-in_err-add_parts_after-clause-only
returns-in_err-add_parts_after-clause-only c =
    let attributes = c.args.matcher.now.attributes in
    parts_only c.args.hasher attributes c.loop-index.index c.in-Some.name.now c.unwrap_or-value.result.now c.args.hashes.now.items c.loop-index.hashes.items c.add_parts_after.new.hashes.items
    (attribute_found attributes c.loop-index.index c.in-Some.name.now c.value_at.result _ c.unwrap_or-value.result (sym c.name_at.ensures ∙ ap option_copied c.in-Some.is) c.value_at.ensures c.unwrap_or-value.ensures)
    c.loop-index.invariant.only c.in_err-add_parts_after.ensures.only

pub loop-index-preserved : goal.loop-index-preserved
loop-index-preserved c = record {
  kept = λ hash has. c.in_ok-add_parts_after.ensures.kept hash (c.loop-index.invariant.kept hash has);
  parts = λ a has. each a (next_attribute attributes c.loop-index.index name value found a has);
  only = parts_only c.args.hasher attributes c.loop-index.index name value c.args.hashes.now.items c.loop-index.hashes.items new found c.loop-index.invariant.only c.in_ok-add_parts_after.ensures.only;
}
  where
    attributes : List Attribute
    attributes = c.args.matcher.now.attributes

    name : List ℕ
    name = c.in-Some.name.now

    value : List ℕ
    value = c.unwrap_or-value.result.now

    new : List ℕ
    new = c.add_parts_after.new.hashes.items

    found : IsAttribute attributes c.loop-index.index name value
    found = attribute_found attributes c.loop-index.index name c.value_at.result _ c.unwrap_or-value.result (sym c.name_at.ensures ∙ ap option_copied c.in-Some.is) c.value_at.ensures c.unwrap_or-value.ensures

    each : (a : Attribute) → Contains (take c.loop-index.index attributes) a ⊎ ((a.name ≡ name) × (unwrap_or a.value [] ≡ value)) → HoldsParts c.args.parted.now c.args.hasher a.name (unwrap_or a.value []) new
    each a (inl before) = parts_kept c.args.parted.now c.args.hasher a.name (unwrap_or a.value []) c.loop-index.hashes.items new c.in_ok-add_parts_after.ensures.kept (c.loop-index.invariant.parts a before)
    each a (inr same) = subst (λ (x : List ℕ × List ℕ). HoldsParts c.args.parted.now c.args.hasher x.0 x.1 new) (λ i. (sym same.0 i, sym same.1 i)) c.in_ok-add_parts_after.ensures.parts

pub returns-in_default-clause-parts : goal.returns-in_default-clause-parts
returns-in_default-clause-parts c = λ a has.
    let attributes = c.args.matcher.now.attributes in
    c.loop-index.invariant.parts a
    (subst (λ (l : List Attribute). Contains l a) (sym (take_all c.loop-index.index attributes (none_there attributes c.loop-index.index (sym c.name_at.ensures ∙ ap option_copied c.in_default.is)))) has)
