-- What a reader keeps of a page.
use Rattle.std.specs.Prelude.{ℕ, Bool, ◌≡◌, ◌-◌, ◌≤◌, ◌<◌, true, List, [], ◌∷◌, length, take, drop, Option, Some, None}
use Rattle.lol_tags.specs.Places.{HasRead, StandsFrom, needed_from}
use Rattle.lol_tags.specs.Reading.{may_be_tag}
use Rattle.lol_tags.specs.declared.reader.Tag.{Tag}
use Rattle.lol_tags.specs.declared.reader.TagReader.{TagReader}
use Rattle.lol_page.specs.Positions.{position_behind}
use Rattle.lol_page.specs.Elements.{elements_of}
use Rattle.lol_page.specs.Pages.{Page}
use Rattle.lol_page.specs.declared.open_elements.OpenElements.{OpenElements}
use Rattle.lol_page.specs.declared.kept_tags.KeptTags.{KeptTags}

-- The bytes from a place on are kept, where they are within the limit.
pub record HoldsFrom (k : KeptTags) (start : ℕ) : Type 0 where
  pub from : k.from ≡ position_behind (take start k.past.read)
  pub bytes : length k.past.read - start ≤ k.limit → k.bytes.items ≡ drop start k.past.read

-- those of the tag that isn't whole yet
pub record IsKept (k : KeptTags) : Type 0 where
  pub read : HasRead k.past.read k.reader
  pub at : k.at ≡ position_behind k.past.read
  pub holds : may_be_tag k.reader.state ≡ true → HoldsFrom k k.reader.start

-- The first of some tags is longer than the limit.
abbrev pub IsLong : ℕ → List Tag → Type 0
IsLong limit [] = ⊥
IsLong limit (tag ∷ tags) = limit < tag.end - tag.start

-- where the bytes begin that are kept behind a tag, or behind none
abbrev pub start_of : TagReader → Option Tag → ℕ
start_of r None = needed_from r
start_of r (Some tag) = tag.start

-- A tag that ends where the page was read to, and whose bytes are kept.
pub record HoldsTag (k : KeptTags) (tag : Tag) : Type 0 where
  pub stands : StandsFrom k.past.read 0 tag
  pub last : tag.end ≡ k.reader.at
  pub text : k.bytes.items ≡ drop tag.start k.past.read
  pub from : k.from ≡ position_behind (take tag.start k.past.read)

abbrev pub page_of : Bool → KeptTags → OpenElements → Page
page_of decoded k o = record { reader = k.reader; read = k.past.read; elements = elements_of o; decoded = decoded }
