-- Where tags stand.
use Rattle.std.specs.Prelude.{ℕ, ◌≡◌, ◌≤◌, ◌<◌, ◌+◌, ◌-◌, Bool, true, false, ◌&&◌, ◌||◌, not, if◌then◌else◌, List, [], ◌∷◌, Some, length, slice_get, ◌⊎◌}
use Rattle.std.specs.Str.{byte}
use Rattle.lol_tags.specs.Reading.{may_be_tag}
use Rattle.lol_tags.specs.declared.state.State.{State}
use Rattle.lol_tags.specs.declared.state.State.TheVariants.{TagOpen, EndTagOpen, RawTextLessThanSign, RawTextEndTagOpen, ScriptDataEscapedLessThanSign, ScriptDataEscapedEndTagOpen}
use Rattle.lol_tags.specs.declared.reader.Tag.{Tag}
use Rattle.lol_tags.specs.declared.reader.TagReader.{TagReader}

-- How far a tag that isn't whole is read: `<`, `</`, or a byte of its name at least.
unfoldable pub is_at_start : State → Bool
is_at_start TagOpen = true
is_at_start RawTextLessThanSign = true
is_at_start ScriptDataEscapedLessThanSign = true
is_at_start _ = false

unfoldable pub is_at_slash : State → Bool
is_at_slash EndTagOpen = true
is_at_slash RawTextEndTagOpen = true
is_at_slash ScriptDataEscapedEndTagOpen = true
is_at_slash _ = false

abbrev pub has_name : State → Bool
has_name s = may_be_tag s && not (is_at_start s || is_at_slash s)

-- the place of a name's first byte
abbrev pub name_start : ℕ → Bool → ℕ
name_start start is_end = if is_end then start + 2 else start + 1

-- A reader that has read these bytes, whatever it was told between them.
pub record HasRead (bytes : List ℕ) (r : TagReader) : Type 0 where
  pub at : r.at ≡ length bytes
  pub opened : may_be_tag r.state ≡ true → slice_get bytes r.start ≡ Some (byte "<")
  pub at_start : is_at_start r.state ≡ true → (r.at ≡ r.start + 1) × (r.is_end ≡ false)
  pub at_slash : is_at_slash r.state ≡ true → (r.at ≡ r.start + 2) × (r.is_end ≡ true)
  pub named : has_name r.state ≡ true → (name_start r.start r.is_end < r.name_end) × (r.name_end ≤ r.at)

-- the place from which on bytes may still belong to a tag
abbrev pub needed_from : TagReader → ℕ
needed_from r = if may_be_tag r.state then r.start else r.at

-- A tag that isn't whole yet is the one that wasn't before, or begins in what was read since.
abbrev pub GoesOn : TagReader → TagReader → Type 0
GoesOn old new = may_be_tag new.state ≡ true → ((may_be_tag old.state ≡ true) × (new.start ≡ old.start)) ⊎ (old.at ≤ new.start)

-- A tag stands in a stream, at or behind a place: from a `<` to behind a `>`, and its name between them.
pub record StandsFrom (bytes : List ℕ) (from : ℕ) (tag : Tag) : Type 0 where
  pub low : from ≤ tag.start
  pub named : name_start tag.start tag.is_end < tag.name_end
  pub some : tag.name_end < tag.end
  pub opens : slice_get bytes tag.start ≡ Some (byte "<")
  pub closes : slice_get bytes (tag.end - 1) ≡ Some (byte ">")

-- Each tag begins at or behind the end of the tag before it.
abbrev pub StandApart : List ℕ → ℕ → List Tag → Type 0
StandApart bytes from [] = Unit {0}
StandApart bytes from (tag ∷ tags) = StandsFrom bytes from tag × StandApart bytes tag.end tags
