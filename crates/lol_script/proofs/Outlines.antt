-- Attributes at their outlines.
use Rattle.std.proofs.Common.{◌≡◌, ℕ, ◌+◌, ◌-◌, ◌≤◌, ◌&&◌, Bool, true, false, refl, cond, List, [], ◌∷◌, ◌++◌, length, length-take, map, take, drop, position, Option, Some, None, sym, ap, ◌∙◌, arith, append_assoc}
use Rattle.std.specs.Prelude.{slice_range}
use Rattle.std.specs.List.{list_all, slice_split, position_or_len}
use Rattle.std.proofs.lemmas.List.{take_all, take-take, drop-take, drop-drop, take_rest, map_push}
use Rattle.std.proofs.lemmas.List.Folds.{list_any_at, list_any_none}
use Rattle.std.proofs.lemmas.List.Sums.{fails_before_first, passes_at_first}
use Rattle.lol_base.specs.StartTags.{Attribute, attribute_of}
use Rattle.lol_base.specs.declared.start_tag.AttributeOutline.{AttributeOutline}
use Rattle.lol_script.specs.Script.{is_tab, is_equals, is_named, attribute_at}
use Rattle.lol_script.proofs.Fields.{pos_in, pos_at, within_position, split_none, split_some}

abbrev attribute_with : List ℕ → Option (List ℕ) → Attribute
attribute_with name value = record { name = name; value = value }

-- a field is a name, where it has no `=`
without_equals : (field : List ℕ) → position is_equals field ≡ None → attribute_with field None ≡ attribute_at field
without_equals field h =
    let all = pos_in (position_or_len is_equals field) (length field) h in
    let none = list_any_none is_equals field (λ k d within. fails_before_first is_equals field k d (omega (arith, all, within))) in
    λ i. attribute_with (sym (take_all (position_or_len is_equals field) field all) i) (cond (sym none i) (Some (drop (position_or_len is_equals field + 1) field)) None)

-- and is cut there
with_equals : (field : List ℕ) (n : ℕ) → position is_equals field ≡ Some n → attribute_with (take n field) (Some (drop (n + 1) field)) ≡ attribute_at field
with_equals field n h =
    let at = pos_at (position_or_len is_equals field) (length field) n h in
    let any = list_any_at is_equals field (position_or_len is_equals field) 0 at.0 (passes_at_first is_equals field 0 at.0) in
    λ i. attribute_with (take (sym at.1 i) field) (cond (sym any i) (Some (drop (sym at.1 i + 1) field)) None)

module _ (text : List ℕ) (start end : ℕ) (ordered : start ≤ end) where
  pub attribute_without : position is_equals (slice_range text start end) ≡ None → attribute_with (slice_range text start end) None ≡ attribute_at (slice_range text start end)
  attribute_without h = without_equals (slice_range text start end) h

  pub attribute_cut : (n : ℕ) → position is_equals (slice_range text start end) ≡ Some n
      → attribute_with (slice_range text start (start + n)) (Some (slice_range text (start + n + 1) end)) ≡ attribute_at (slice_range text start end)
  attribute_cut n h =
      let within : n + 1 ≤ end - start = omega (arith, within_position is_equals (slice_range text start end) n h, length-take (end - start) (drop start text)) in
      let name : slice_range text start (start + n) ≡ take n (slice_range text start end) =
      ap (λ k. take k (drop start text)) (omega arith) ∙ sym (take-take n (end - start) (drop start text) (omega (arith, within))) in
      let value : slice_range text (start + n + 1) end ≡ drop (n + 1) (slice_range text start end) =
      ap (take (end - (start + n + 1))) (ap (λ k. drop k text) (omega arith) ∙ sym (drop-drop (n + 1) start text))
      ∙ (sym (drop-take (n + 1) (end - (start + n + 1)) (drop start text)) ∙ ap (λ k. drop (n + 1) (take k (drop start text))) (omega (arith, within))) in
      (λ i. attribute_with (name i) (Some (value i))) ∙ with_equals (slice_range text start end) n h

module _ (text : List ℕ) (outlines : List AttributeOutline) (outline : AttributeOutline) (start : ℕ) where
  -- the outline of a field before a tab
  pub attributes_more : (offset : ℕ) → position is_tab (drop start text) ≡ Some offset → attribute_of text outline ≡ attribute_at (slice_range text start (start + offset))
      → map (attribute_of text) (outlines ++ outline ∷ []) ++ map attribute_at (slice_split is_tab (drop (start + (offset + 1)) text)) ≡ map (attribute_of text) outlines ++ map attribute_at (slice_split is_tab (drop start text))
  attributes_more offset h is =
      let before = map (attribute_of text) outlines in
      let after = map attribute_at (slice_split is_tab (drop (start + (offset + 1)) text)) in
      let field : slice_range text start (start + offset) ≡ take offset (drop start text) = ap (λ k. take k (drop start text)) (omega arith) in
      let split : slice_split is_tab (drop start text) ≡ take offset (drop start text) ∷ slice_split is_tab (drop (start + (offset + 1)) text) =
      split_some (drop start text) offset h ∙ ap (λ rest. take offset (drop start text) ∷ slice_split is_tab rest) (drop-drop (offset + 1) start text) in
      ap (λ (attributes : List Attribute). attributes ++ after) (map_push (attribute_of text) outlines outline)
      ∙ (append_assoc before (attribute_of text outline ∷ []) after
      ∙ ap (λ (attributes : List Attribute). before ++ attributes) (ap (λ (a : Attribute). a ∷ after) (is ∙ ap attribute_at field) ∙ sym (ap (map attribute_at) split)))

  -- the outline of the last field
  pub attributes_last : position is_tab (drop start text) ≡ None → attribute_of text outline ≡ attribute_at (slice_range text start (length text))
      → map (attribute_of text) (outlines ++ outline ∷ []) ≡ map (attribute_of text) outlines ++ map attribute_at (slice_split is_tab (drop start text))
  attributes_last h is =
      map_push (attribute_of text) outlines outline
      ∙ ap (λ (attributes : List Attribute). map (attribute_of text) outlines ++ attributes)
      (ap (λ (a : Attribute). a ∷ []) (is ∙ ap attribute_at (take_rest text start)) ∙ sym (ap (map attribute_at) (split_none (drop start text) h)))

abbrev are_named : List (List ℕ) → Bool
are_named fields = list_all is_named (map attribute_at fields)

both_named : (named first one rest : Bool) → first ≡ one → ((named && first) && rest) ≡ (named && (one && rest))
both_named true first one rest same = ap (λ (b : Bool). b && rest) same
both_named false first one rest same = refl

module _ (text : List ℕ) (start : ℕ) (named first : Bool) where
  -- whether the fields up to a tab and after it are named
  pub names_more : (offset : ℕ) → position is_tab (drop start text) ≡ Some offset → first ≡ is_named (attribute_at (slice_range text start (start + offset)))
      → ((named && first) && are_named (slice_split is_tab (drop (start + (offset + 1)) text))) ≡ (named && are_named (slice_split is_tab (drop start text)))
  names_more offset h is =
      let field : slice_range text start (start + offset) ≡ take offset (drop start text) = ap (λ k. take k (drop start text)) (omega arith) in
      let split : slice_split is_tab (drop start text) ≡ take offset (drop start text) ∷ slice_split is_tab (drop (start + (offset + 1)) text) =
      split_some (drop start text) offset h ∙ ap (λ rest. take offset (drop start text) ∷ slice_split is_tab rest) (drop-drop (offset + 1) start text) in
      both_named named first _ _ (is ∙ ap (λ f. is_named (attribute_at f)) field) ∙ ap (λ fields. named && are_named fields) (sym split)

  -- and whether the last field is
  pub names_last : position is_tab (drop start text) ≡ None → first ≡ is_named (attribute_at (drop start text))
      → (named && first) ≡ (named && are_named (slice_split is_tab (drop start text)))
  names_last h is = ap (λ (b : Bool). named && b) (is ∙ one (is_named (attribute_at (drop start text)))) ∙ ap (λ fields. named && are_named fields) (sym (split_none (drop start text) h))
    where
      one : (b : Bool) → b ≡ (b && true)
      one true = refl
      one false = refl
