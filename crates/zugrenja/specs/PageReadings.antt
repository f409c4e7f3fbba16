-- A page that is read on.
use Rattle.std.specs.Prelude.{ℕ, ◌≡◌, Bool, List, [], length, Option, None}
use Rattle.std.specs.Io.KnownBytes.{Appends, Consumes, IsAtEnd}
use Rattle.lol_program.specs.declared.ast.Ast.{Ast}
use Rattle.lol_page.specs.Pages.{page_tags_from}
use Rattle.lol_matcher.specs.Told.{Told}
use Rattle.lol_page.specs.PageMatches.{PageMatch, matches_told}
use Rattle.lol_page.specs.declared.page.Page.{Page}
use Rattle.zugrenja.specs.Lines.{page_lines}
use Rattle.zugrenja.specs.declared.lines.Style.{Style}

-- nothing was told yet
abbrev pub told_nothing : Ast → Bool → Told
told_nothing ast esi = record { ast = ast; esi = esi; events = []; asked = None }

-- the matches in bytes that come now
abbrev pub matches_in : Page (Unit {0}) → List ℕ → List PageMatch
matches_in page bytes = matches_told page.reader.page.decoded page.matcher.told (page_tags_from page.reader.page bytes)

-- Bytes were read to their end, the lines of their matches were written and nothing else, and so many they are. `unread` and `left` are what
-- a reader had and has, `held` and `holds` what a writer held and holds.
pub record WritesPage (style : Style) (matches : List ℕ → List PageMatch) (unread left held holds : Option (List ℕ)) (count : ℕ) : Type 0 where
  pub bytes : List ℕ
  pub read : Consumes unread left bytes
  pub at_end : IsAtEnd left
  pub written : Appends held holds (page_lines style (matches bytes))
  pub counted : count ≡ length (matches bytes)
