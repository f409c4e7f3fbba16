-- What one part more adds to what was read of a chunk.
use Rattle.std.proofs.Common.{◌≡◌, ℕ, ◌+◌, ◌-◌, ◌≤◌, List, [], ◌++◌, length, take, drop, sym, ◌∙◌, ap, subst, arith, length-drop}
use Rattle.std.proofs.Math.Seq.{take-add}
use Rattle.std.proofs.lemmas.List.{take_rest}
use Rattle.lol_page.specs.Pages.{page_tags_from}
use Rattle.lol_page.specs.MatchLaws.{matches_both, reads_both}
use Rattle.lol_page.specs.PageMatches.{PageMatch, ReadsOn, matches_told}
use Rattle.lol_page.specs.declared.page.Page.{Page}

module _ {T : Type 0} (p q : Page T) (s : List ℕ) (i n : ℕ) (before : ReadsOn p q (take i s)) where
  abbrev part : List ℕ
  part = take n (take (length s - i) (drop i s))

  whole : take i s ++ part ≡ take (i + n) s
  whole = ap (λ (x : List ℕ). take i s ++ take n x) (take_rest s i) ∙ sym (take-add i n s)

  pub read_part : (r : Page T) → ReadsOn q r part → ReadsOn p r (take (i + n) s)
  read_part r now = subst (ReadsOn p r) whole (reads_both p q (take i s) part before r now)

  pub found_part : (found : List PageMatch) → matches_told p.reader.page.decoded p.matcher.told (page_tags_from p.reader.page (take i s)) ≡ []
      → found ≡ matches_told q.reader.page.decoded q.matcher.told (page_tags_from q.reader.page part) → found ≡ matches_told p.reader.page.decoded p.matcher.told (page_tags_from p.reader.page (take (i + n) s))
  found_part found none now =
      now ∙ ap (λ (ms : List PageMatch). ms ++ matches_told q.reader.page.decoded q.matcher.told (page_tags_from q.reader.page part)) (sym none)
      ∙ sym (matches_both p q (take i s) part before) ∙ ap (λ (x : List ℕ). matches_told p.reader.page.decoded p.matcher.told (page_tags_from p.reader.page x)) whole
