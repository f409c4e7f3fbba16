-- Reports under the ids of texts.
use Rattle.std.proofs.Common.{◌≡◌, ◌≤◌, ℕ, List, [], ◌∷◌, length, Option, Some, None, arith}
use Rattle.std.proofs.lemmas.List.Filters.{dedup_is}
use Rattle.std.proofs.lemmas.List.Kept.{AllPairs-from_increasing, Contains-dedup_nat, Contains-from_dedup}
use Rattle.std.proofs.lemmas.List.Sorted.{Contains-permutation, IsPermutation-sym}
use Rattle.std.proofs.lemmas.Map.Keys.{IsStrictlyIncreasing-dedup}
use Rattle.std.specs.List.{cons_option}
use Rattle.std.specs.List.Retain.{DiffersFromLast, IsFiltered}
use Rattle.std.specs.List.Sorted.{IsPermutation, IsSorted}
use Rattle.std.specs.Option.{option_map}
use Rattle.std.specs.Ordering.{nat_cmp}
use Rattle.std.specs.Prelude.{filter_map, slice_get}
use lib.Dec.{eqb}
use Rattle.lol_base.specs.Ascending.{ascending_once}
use Rattle.lol_base.specs.AscendingLaws.{among_ascending, ascending_among, ascending_ascends, ascending_is_determined, pairs_from_ascends}
use Rattle.lol_base.specs.MemberLaws.{among_from_contains, contains_from_among}
use Rattle.lol_matcher.specs.Explaining.{ids_under}

-- ids in order, and then each once
pub in_order : (ids sorted once : List ℕ) → IsPermutation ids sorted → IsSorted nat_cmp sorted → IsFiltered (DiffersFromLast eqb) [] sorted once → once ≡ ascending_once ids
in_order ids sorted once moved rises filtered =
    let is = dedup_is _ _ _ filtered in
    ascending_is_determined once (ascending_once ids) (AllPairs-from_increasing once (rw is (IsStrictlyIncreasing-dedup _ rises))) (pairs_from_ascends (ascending_once ids) (ascending_ascends ids))
    (λ id. (
      λ h. contains_from_among (ascending_once ids) id (ascending_among ids id (among_from_contains ids id (Contains-permutation _ _ id (IsPermutation-sym _ _ moved) (Contains-from_dedup _ _ id (rw is at h))))),
      λ h. rw is (Contains-dedup_nat _ id (Contains-permutation _ _ id moved (contains_from_among ids id (among_ascending ids id (among_from_contains (ascending_once ids) id h))))),
    ))

-- no item has two ids
pub ids_are_few : (items : List (ℕ × ℕ × ℕ)) (numbers : List ℕ) → length (ids_under items numbers) ≤ length numbers
ids_are_few items [] = omega arith
ids_are_few items (n ∷ numbers) = by_item (option_map (λ (item : ℕ × ℕ × ℕ). item.0) (slice_get items n)) (ids_are_few items numbers)
  where
    by_item : (o : Option ℕ) → length (ids_under items numbers) ≤ length numbers → length (cons_option o (ids_under items numbers)) ≤ length (n ∷ numbers)
    by_item None h = omega (arith, h)
    by_item (Some id) h = omega (arith, h)
