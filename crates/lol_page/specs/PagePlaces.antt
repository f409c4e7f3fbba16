-- Where the tags of a page stand.
use Rattle.std.specs.Prelude.{ℕ, ◌≡◌, ◌+◌, List, take, slice_range}
use Rattle.lol_tags.specs.Places.{StandsFrom}
use Rattle.lol_page.specs.PageTags.{PageTag}
use Rattle.lol_page.specs.Positions.{position_behind}

-- A tag stands in a page: its bytes are those at its places, from `<` to `>`, and its line and column are those of its `<`.
pub record StandsInPage (page : List ℕ) (t : PageTag) : Type 0 where
  pub stands : StandsFrom page 0 t.tag
  pub text : t.text ≡ slice_range page t.tag.start t.tag.end
  pub line : t.line ≡ (position_behind (take t.tag.start page)).line_ends + 1
  pub column : t.column ≡ (position_behind (take t.tag.start page)).column + 1
