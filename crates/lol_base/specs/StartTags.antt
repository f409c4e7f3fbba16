-- What a start tag says, and what the code's values say of it.
use Rattle.std.specs.Prelude.{ℕ, ◌≤◌, Bool, List, map, length, slice_range, Option, All}
use Rattle.std.specs.Option.{option_map, ForSome}
use Rattle.lol_base.specs.declared.namespace.Namespace.{Namespace}
use Rattle.lol_base.specs.declared.bytes.Bytes.{Bytes}
use Rattle.lol_base.specs.declared.bytes.Range.{Range}
use Rattle.lol_base.specs.declared.start_tag.AttributeOutline.{AttributeOutline}
use Rattle.lol_base.specs.declared.start_tag.AuxStartTagInfo.{AuxStartTagInfo}

-- An attribute: its name, and its value where one is written (HTML Standard, "Attributes", 13.1.2.3).
pub record Attribute : Type 0 where
  pub name : List ℕ
  pub value : Option (List ℕ)

-- A start tag (HTML Standard, "Start tags", 13.1.2.1), and whether the caller hands its attributes over where they are asked for.
pub record StartTag : Type 0 where
  pub name : List ℕ
  pub namespace : Namespace
  pub attributes : List Attribute
  pub self_closing : Bool
  pub finish : Bool

-- the bytes of an input
abbrev pub bytes_of : Bytes → List ℕ
bytes_of input = input.bytes.now

-- the bytes of a range
abbrev pub bytes_at : List ℕ → Range → List ℕ
bytes_at input r = slice_range input r.start r.end

-- a range lies inside an input
abbrev pub IsInside : List ℕ → Range → Type 0
IsInside input r = (r.start ≤ r.end) × (r.end ≤ length input)

-- an attribute by its outline
abbrev pub attribute_of : List ℕ → AttributeOutline → Attribute
attribute_of input a = record { name = bytes_at input a.name; value = option_map (bytes_at input) a.value }

-- the attributes of a tag, in order
abbrev pub attributes_of : AuxStartTagInfo → List Attribute
attributes_of aux = map (attribute_of (bytes_of aux.input)) aux.attr_buffer.now.items

-- a name range and a value range lie inside
abbrev pub OutlineIsInside : List ℕ → AttributeOutline → Type 0
OutlineIsInside input a = IsInside input a.name × ForSome a.value (IsInside input)

-- each name range and each value range lies inside the input
abbrev pub RangesAreInside : AuxStartTagInfo → Type 0
RangesAreInside aux = All (OutlineIsInside (bytes_of aux.input)) aux.attr_buffer.now.items
