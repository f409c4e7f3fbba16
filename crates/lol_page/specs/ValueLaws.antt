-- The values of attributes, as they are read.
use Rattle.std.specs.Prelude.{ℕ, ◌≡◌, Bool, true, false, if◌then◌else◌, List, [], ◌∷◌, map, Option, Some, None, unwrap_or}
use Rattle.std.proofs.Common.{ap, refl}
use Rattle.std.specs.Option.{option_map}
use Rattle.std.specs.Str.{bytes_eq}
use Rattle.lol_base.specs.Names.{lowercased}
use Rattle.lol_base.specs.StartTags.{Attribute, attribute_of, bytes_at}
use Rattle.lol_base.specs.declared.bytes.Range.{Range}
use Rattle.lol_base.specs.declared.start_tag.AttributeOutline.{AttributeOutline}
use Rattle.lol_instructions.specs.Attributes.{value_among}
use Rattle.lol_instructions.specs.Tests.{find_attribute}
use Rattle.lol_references.specs.Attributes.{decoded_attribute}
use Rattle.lol_references.specs.Decoding as references
use Rattle.lol_tags.specs.Attributes.{attributes_of, outlines_of}
use Rattle.lol_page.specs.Pages.{attributes_read}

-- a value, decoded or as it is written
abbrev pub value_read : Bool → Option (List ℕ) → Option (List ℕ)
value_read decoded value = if decoded then option_map references.decoded value else value

decoded_or_empty : (text : List ℕ) (value : Option Range)
    → unwrap_or (option_map (λ range. references.decoded (bytes_at text range)) value) [] ≡ references.decoded (unwrap_or (option_map (bytes_at text) value) [])
decoded_or_empty text None = refl
decoded_or_empty text (Some range) = refl

abbrev written : Attribute → List ℕ
written a = unwrap_or a.value []

first_of : (is_found : Bool) (a b : Attribute) (x y : Option Attribute) → written b ≡ references.decoded (written a)
    → option_map written y ≡ option_map references.decoded (option_map written x)
    → option_map written (if is_found then Some b else y) ≡ option_map references.decoded (option_map written (if is_found then Some a else x))
first_of true a b x y first more = ap Some first
first_of false a b x y first more = more

decoded_among : (name text : List ℕ) (outlines : List AttributeOutline)
    → value_among name (map (decoded_attribute text) outlines) ≡ option_map references.decoded (value_among name (map (attribute_of text) outlines))
decoded_among name text [] = refl
decoded_among name text (o ∷ outlines) =
    first_of (bytes_eq (lowercased (bytes_at text o.name)) name) (attribute_of text o) (decoded_attribute text o)
    (find_attribute name (map (attribute_of text) outlines)) (find_attribute name (map (decoded_attribute text) outlines))
    (decoded_or_empty text o.value) (decoded_among name text outlines)

-- The value of a name among the attributes that are read is that among those that are written, decoded or not.
pub read_among : (decoded : Bool) (name text : List ℕ) (name_end : ℕ)
    → value_among name (attributes_read decoded text name_end) ≡ value_read decoded (value_among name (attributes_of text name_end))
read_among true name text name_end = decoded_among name text (outlines_of text name_end)
read_among false name text name_end = refl
