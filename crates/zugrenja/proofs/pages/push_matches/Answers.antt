-- One part more of the chunk is read.
use Rattle.std.proofs.Common.{◌≡◌, ℕ, ◌+◌, ◌++◌, List, length, take, drop, subst, sym, ap, ◌∙◌}
use Rattle.std.proofs.Math.Seq.{take-add}
use Rattle.std.proofs.lemmas.List.{take_rest}
use Rattle.lol_page.specs.MatchLaws.{matches_both, reads_both}
use Rattle.lol_page.specs.PageMatches.{ReadsOn}
use Rattle.zugrenja.specs.Lines.{lines_of}
use Rattle.zugrenja.specs.PageReadings.{matches_in}
use Rattle.zugrenja.proofs.PageParts.{lines_added, count_added, part-within}
use Rattle.zugrenja.proofs.pages.push_matches.Goals as goal

pub loop-i-preserved : goal.loop-i-preserved
loop-i-preserved c =
    let s = c.args.chunk.now in
    let i = c.loop-i.i in
    let n = c.in_ok-taken.taken in
    let p = c.args.page.now in
    let q = c.loop-i.page in
    let r = c.push_match.new.page in
    let before = c.loop-i.invariant in
    let now = c.in_ok-taken.ensures in
    let whole : take (i + n) s ≡ take i s ++ take n (drop i s) = take-add i n s in
    let part = take_rest s i in
    let found : matches_in p (take (i + n) s) ≡ matches_in p (take i s) ++ matches_in q (take n (drop i s)) =
    ap (matches_in p) whole ∙ matches_both p q (take i s) (take n (drop i s)) before.read in
    record {
      within = part-within s i n before.within now.within;
      read = subst (ReadsOn p r) (sym whole) (reads_both p q (take i s) (take n (drop i s)) before.read r (subst (λ (x : List ℕ). ReadsOn q r (take n x)) part now.read));
      lines = lines_added c.args.style.now _ _ _ (matches_in p (take i s)) (matches_in q (take n (drop i s))) (matches_in p (take (i + n) s)) before.lines
          (now.lines ∙ ap (λ (x : List ℕ). c.loop-i.lines.items ++ lines_of c.args.style.now (matches_in q (take n x))) part) found;
      count = count_added c.args.count c.loop-i.counted c.in_ok-counted.counted (matches_in p (take i s)) (matches_in q (take n (drop i s))) (matches_in p (take (i + n) s)) before.count
          (c.in_ok-counted.ensures ∙ ap (λ (k : ℕ). c.loop-i.counted + k) (now.count ∙ ap (λ (x : List ℕ). length (matches_in q (take n x))) part)) found;
    }
