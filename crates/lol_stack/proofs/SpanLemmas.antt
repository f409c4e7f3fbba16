-- The set of active ranges.
use Rattle.std.proofs.Common.{◌≡◌, ◌≤◌, ℕ, Bool, true, false, cond, not, List, [], ◌∷◌, ◌++◌, length, take, refl, sym, ap, ◌∙◌, arith}
use Rattle.std.specs.Prelude.{◌&&◌, ◌||◌, if◌then◌else◌}
use Rattle.std.specs.Bool.{OnFalse}
use Rattle.std.specs.BTreeMap.{is_at}
use Rattle.std.specs.BTreeSet.{BTreeSet, contains, Updates}
use Rattle.std.specs.Cmp.{tied_then, unsigned_tied}
use Rattle.std.specs.Ordering.{nat_cmp}
use Rattle.std.specs.declared.ops.Range.{Range}
use Rattle.std.proofs.lemmas.List.{length-append, take-append-le}
use Rattle.std.proofs.lemmas.List.Folds.{list_any-append}
use Rattle.lol_stack.specs.Active.{activated, is_range_active, is_same_range}
use Rattle.lol_stack.specs.Spans.{HasSpans, span_cmp}

same_span : (a r : Range ℕ) → is_at (span_cmp (a.start, a.end)) (r.start, r.end) ≡ is_same_range a r
same_span a r = sym (tied_then (nat_cmp a.start r.start) (nat_cmp a.end r.end)) ∙ (λ i. unsigned_tied a.start r.start i && unsigned_tied a.end r.end i)

joined : (a b : Bool) → cond a true b ≡ (b || (a || false))
joined true true = refl
joined true false = refl
joined false true = refl
joined false false = refl

turned : (b c : Bool) → b ≡ not c → c ≡ not b
turned b true is = ap not (sym is)
turned b false is = ap not (sym is)

module _ (known next : BTreeSet (ℕ × ℕ)) (active : List (Range ℕ × ℕ)) (a : Range ℕ) (depth : ℕ) (has : HasSpans known active) where
  abbrev more : List (Range ℕ × ℕ)
  more = active ++ (a, depth) ∷ []

  -- one more range
  pub spans_more : Updates span_cmp known next (a.start, a.end) true → HasSpans next more
  spans_more updates = λ r.
      updates.0 (r.start, r.end)
      ∙ ((λ i. cond (same_span a r i) true (has r i))
      ∙ (joined (is_same_range a r) (is_range_active active r) ∙ sym (list_any-append (λ (x : Range ℕ × ℕ). is_same_range x.0 r) active ((a, depth) ∷ []))))

  module _ (added : Bool) (told : added ≡ not (contains span_cmp known (a.start, a.end))) where
    known_is : is_range_active active a ≡ not added
    known_is = sym (has a) ∙ turned added (contains span_cmp known (a.start, a.end)) told

    -- it is active then, whether it was or not
    pub activated_next : (ranges : List (Range ℕ)) → activated active depth (a ∷ ranges) ≡ activated (if added then more else active) depth ranges
    activated_next ranges = ap (λ b. activated (if b then active else more) depth ranges) known_is ∙ by_test added
      where
        by_test : (b : Bool) → activated (if not b then active else more) depth ranges ≡ activated (if b then more else active) depth ranges
        by_test true = refl
        by_test false = refl

    pub spans_next : Updates span_cmp known next (a.start, a.end) true → OnFalse added (next.keys ≡ known.keys) → HasSpans next (if added then more else active)
    spans_next updates unchanged = by_test added unchanged
      where
        by_test : (b : Bool) → OnFalse b (next.keys ≡ known.keys) → HasSpans next (if b then more else active)
        by_test true same = spans_more updates
        by_test false same = λ r. ap (λ keys. contains span_cmp (record { keys = keys }) (r.start, r.end)) same ∙ has r

-- what stood there before still does
pub kept_next : {A : Type 0} (b : Bool) (xs old : List A) (x : A) (n : ℕ) → n ≤ length xs → take n xs ≡ old → take n (if b then xs ++ x ∷ [] else xs) ≡ old
kept_next true xs old x n within kept = take-append-le n xs (x ∷ []) within ∙ kept
kept_next false xs old x n within kept = kept

pub longer_next : {A : Type 0} (b : Bool) (xs : List A) (x : A) (n : ℕ) → n ≤ length xs → n ≤ length (if b then xs ++ x ∷ [] else xs)
longer_next true xs x n within = omega (arith, within, length-append xs (x ∷ []))
longer_next false xs x n within = within
