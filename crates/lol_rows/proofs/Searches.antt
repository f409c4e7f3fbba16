-- What a binary search of numbers that rise finds.
use Rattle.std.proofs.Common.{◌≡◌, ℕ, ◌<◌, ◌≤◌, ◌⊎◌, inl, inr, List, length, get_or, Some, Result, Ok, Err, Contains, MatchResult, arith, sym, ap, ◌∙◌, subst, nat_cmp}
use Rattle.std.specs.List.Sorted.{IsBinarySearchResult, IsStrictlyIncreasing}
use Rattle.std.proofs.lemmas.List.Sorted.{searched}
use Rattle.std.proofs.lemmas.Bool.{cases_lt}
use Rattle.std.proofs.lemmas.Map.Keys.{below_from_sorted, sorted_from_strictly_increasing}
use Rattle.std.proofs.lemmas.Option.{slice_get-get_or}
use Rattle.lol_base.specs.MemberLaws.{contains_from_among}
use Rattle.lol_base.specs.PlaceLaws.{at_among, some_is}

module _ (xs : List ℕ) (rise : IsStrictlyIncreasing xs) where
  do_not_fall : (i j : ℕ) → i ≤ j → j < length xs → get_or xs i 0 ≤ get_or xs j 0
  do_not_fall i j low inside = by_order (cases_lt i j)
    where
      by_order : (i < j) ⊎ (j ≤ i) → get_or xs i 0 ≤ get_or xs j 0
      by_order (inl less) = omega (arith, below_from_sorted xs i j 0 (sorted_from_strictly_increasing xs rise) less inside)
      by_order (inr more) = let same : i ≡ j = omega (arith, low, more) in subst (λ k. get_or xs i 0 ≤ get_or xs k 0) same (omega arith)

  -- it ends at a number exactly if the number is there
  pub found_or_not : (x : ℕ) (r : Result ℕ ℕ) → IsBinarySearchResult (λ y. nat_cmp y x) xs r → MatchResult r (λ i. Contains xs x) (λ i. Contains xs x → ⊥)
  found_or_not x (Ok i) is =
      let at = searched xs x (Ok i) is do_not_fall in
      contains_from_among xs x (at_among xs i x (slice_get-get_or xs i 0 at.0 ∙ ap Some at.1))
  found_or_not x (Err i) is = λ has.
      let here : get_or xs has.0 0 ≡ x = some_is (sym (slice_get-get_or xs has.0 0 has.1) ∙ (slice_get-get_or xs has.0 x has.1 ∙ ap Some has.2)) in
      by_order has.0 has.1 here (cases_lt has.0 i)
    where
      by_order : (k : ℕ) → k < length xs → get_or xs k 0 ≡ x → (k < i) ⊎ (i ≤ k) → ⊥
      by_order k inside here (inl less) = omega (arith, (searched xs x (Err i) is do_not_fall).1 k less, here)
      by_order k inside here (inr more) = omega (arith, (searched xs x (Err i) is do_not_fall).2 k more inside, here)
