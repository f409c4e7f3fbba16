-- Lines, worked by hand.
use Rattle.std.specs.Prelude.{ℕ, true, false, List, [], ◌∷◌, ◌++◌, codes, Some}
use Rattle.lol_base.specs.declared.namespace.Namespace.TheVariants.{Html}
use Rattle.lol_machine.specs.Answers.{Match}
use Rattle.lol_page.specs.PageMatches.{PageMatch}

abbrev pub under : ℕ → Match
under id = record { id = id; with_content = true }

-- `<a` and `>` with a line feed between them, in line 2
abbrev pub parted : List ℕ
parted = codes "<a" ++ 10 ∷ codes ">"

-- a tag that has a quote, a line feed and a byte that is no text
abbrev pub odd : PageMatch
odd = record {
  tag = record {
    tag = record { start = 40; end = 46; name_end = 42; is_end = false; self_closing = false };
    text = codes "<a\"" ++ 10 ∷ 255 ∷ codes ">";
    namespace = Some Html;
    line = 2;
    column = 13;
  };
  matched = under 1 ∷ under 12 ∷ [];
}
