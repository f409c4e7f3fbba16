-- Attributes stay what they are when bytes come after their input.
use Rattle.std.proofs.Common.{◌≡◌, ℕ, ◌-◌, arith, List, [], ◌∷◌, ◌++◌, take, drop, map, Option, Some, None, refl, ap, ◌∙◌, All}
use Rattle.std.specs.Option.{option_map, ForSome}
use Rattle.std.proofs.lemmas.List.{take-append-le, drop-append-le, length-drop}
use Rattle.std.proofs.lemmas.List.Elements.{All-head, All-tail}
use Rattle.lol_base.specs.declared.bytes.Range.{Range}
use Rattle.lol_base.specs.declared.start_tag.AttributeOutline.{AttributeOutline}
use Rattle.lol_base.specs.StartTags.{bytes_at, IsInside, OutlineIsInside, attribute_of}
use Rattle.lol_base.specs.BuiltAttributes.{Extends}

module _ (input more : List ℕ) where
  same_bytes : (r : Range) → IsInside input r → bytes_at (input ++ more) r ≡ bytes_at input r
  same_bytes r h =
      ap (take (r.end - r.start)) (drop-append-le r.start input more (omega (arith, h.0, h.1)))
      ∙ take-append-le (r.end - r.start) (drop r.start input) more (omega (arith, h.0, h.1, length-drop r.start input))

  same_value : (v : Option Range) → ForSome v (IsInside input) → option_map (bytes_at (input ++ more)) v ≡ option_map (bytes_at input) v
  same_value None h = refl
  same_value (Some r) h = ap Some (same_bytes r (h r refl))

  same_attribute : (a : AttributeOutline) → OutlineIsInside input a → attribute_of (input ++ more) a ≡ attribute_of input a
  same_attribute a h = λ i. record { name = same_bytes a.name h.0 i; value = same_value a.value h.1 i }

  same_attributes : (outlines : List AttributeOutline) → All (OutlineIsInside input) outlines → map (attribute_of (input ++ more)) outlines ≡ map (attribute_of input) outlines
  same_attributes [] h = refl
  same_attributes (a ∷ rest) h = λ i. same_attribute a (All-head (OutlineIsInside input) a rest h) i ∷ same_attributes rest (All-tail (OutlineIsInside input) a rest h) i

pub same_attributes_after : (before after : List ℕ) → Extends before after → (outlines : List AttributeOutline) → All (OutlineIsInside before) outlines → map (attribute_of after) outlines ≡ map (attribute_of before) outlines
same_attributes_after before after more outlines h = ap (λ (input : List ℕ). map (attribute_of input) outlines) more.1 ∙ same_attributes before more.0 outlines h
