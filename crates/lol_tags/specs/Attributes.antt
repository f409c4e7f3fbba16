-- The attributes of a tag, as places in its bytes, by the states of 13.2.5.32 to 13.2.5.40.
use Rattle.std.specs.Prelude.{ℕ, ◌+◌, Bool, true, false, ◌&&◌, ◌||◌, not, if◌then◌else◌, List, Option, Some, None, map, drop}
use Rattle.lol_base.specs.StartTags.{Attribute, attribute_of}
use Rattle.lol_base.specs.declared.bytes.Range.{Range}
use Rattle.lol_base.specs.declared.start_tag.AttributeOutline.{AttributeOutline}
use Rattle.lol_tags.specs.Runs.{given}
use Rattle.lol_tags.specs.States.{next}
use Rattle.lol_tags.specs.declared.state.State.{State}
use Rattle.lol_tags.specs.declared.state.State.TheVariants.{TagName, AttributeName, AfterAttributeName, BeforeAttributeValue, AttributeValueDoubleQuoted, AttributeValueSingleQuoted, AttributeValueUnquoted}
use Rattle.lol_tags.specs.declared.attributes.AttributeReader.{AttributeReader}

unfoldable pub is_attribute_name : State → Bool
is_attribute_name AttributeName = true
is_attribute_name _ = false

unfoldable pub is_quoted : State → Bool
is_quoted AttributeValueDoubleQuoted = true
is_quoted AttributeValueSingleQuoted = true
is_quoted _ = false

unfoldable pub is_value : State → Bool
is_value AttributeValueDoubleQuoted = true
is_value AttributeValueSingleQuoted = true
is_value AttributeValueUnquoted = true
is_value _ = false

-- in an attribute that isn't whole yet
unfoldable pub is_in_attribute : State → Bool
is_in_attribute AttributeName = true
is_in_attribute AfterAttributeName = true
is_in_attribute BeforeAttributeValue = true
is_in_attribute AttributeValueDoubleQuoted = true
is_in_attribute AttributeValueSingleQuoted = true
is_in_attribute AttributeValueUnquoted = true
is_in_attribute _ = false

-- A byte that leads from a state to another one is the first of an attribute's name.
abbrev pub begins : State → State → Bool
begins from to = is_attribute_name to && not (is_attribute_name from)

-- Before such a byte the attribute is whole: another one begins, or the byte ends its name, its value or the tag.
abbrev pub completes : State → State → Bool
completes from to = is_in_attribute from && (begins from to || not (is_in_attribute to))

-- The name ends behind its last byte, and the value begins behind its quote, or with the first byte of a value with none.
abbrev pub noted_attribute : State → AttributeReader → AttributeReader
noted_attribute to r = record {
  state = to;
  at = r.at + 1;
  name_start = (if begins r.state to then r.at else r.name_start);
  name_end = (if is_attribute_name to then r.at + 1 else r.name_end);
  value_start = (if is_value r.state then r.value_start else (if is_quoted to then r.at + 1 else r.at));
}

abbrev pub next_of : AttributeReader → ℕ → State
next_of r b = next r.state b false false false

unfoldable pub attribute_step : AttributeReader → ℕ → AttributeReader
attribute_step r b = noted_attribute (next_of r b) r

abbrev pub range : ℕ → ℕ → Range
range start end = record { start = start; end = end }

-- A value that isn't written is empty, and stands at the name's end.
abbrev pub value_range : AttributeReader → Range
value_range r = if is_value r.state then range r.value_start r.at else range r.name_end r.name_end

-- The whole attribute reaches to behind the quote that ends its value.
abbrev pub outline_at : AttributeReader → AttributeOutline
outline_at r = record {
  name = range r.name_start r.name_end;
  value = Some (value_range r);
  raw_range = range r.name_start (if is_quoted r.state then r.at + 1 else (value_range r).end);
}

-- the attribute that a byte ends
unfoldable pub attribute_ended : AttributeReader → ℕ → Option AttributeOutline
attribute_ended r b = if completes r.state (next_of r b) then Some (outline_at r) else None

abbrev pub behind_name : ℕ → AttributeReader
behind_name place = record { state = TagName; at = place; name_start = place; name_end = place; value_start = place }

-- The attributes of a tag whose name ends at this place: where each stands.
abbrev pub outlines_of : List ℕ → ℕ → List AttributeOutline
outlines_of tag name_end = given attribute_step attribute_ended (behind_name name_end) (drop name_end tag)

-- their names and values
abbrev pub attributes_of : List ℕ → ℕ → List Attribute
attributes_of tag name_end = map (attribute_of tag) (outlines_of tag name_end)
