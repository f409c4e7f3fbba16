-- The entries of a list of hashes, before and after they are sorted.
use Rattle.std.proofs.Common.{◌≡◌, ℕ, zero, suc, ◌+◌, ◌-◌, ◌<◌, ◌≤◌, List, [], ◌∷◌, ◌++◌, length, get_or, slice_get, Some, Contains, ◌↔◌, ◌⊎◌, inl, inr, IsPermutation, refl, sym, ap, ◌∙◌, subst, arith, length-append, true, false, cond, le-ltb, lt-ltb, true≢false}
use Rattle.std.specs.Prelude.{◌==◌}
use Rattle.std.specs.Ordering.{is_lt, nat_cmp, ordering_then}
use Rattle.std.specs.declared.cmp.Ordering.{Ordering}
use Rattle.std.specs.declared.cmp.Ordering.TheVariants.{Less, Equal, Greater}
use Rattle.std.specs.List.Sorted.{IsNonDecreasingBy}
use Rattle.std.proofs.lemmas.List.{get_or-append-add, get_or_append_left}
use Rattle.std.proofs.lemmas.List.Sorted.{Contains-permutation, IsNonDecreasingBy-from_sort, IsPermutation-sym}
use Rattle.std.proofs.lemmas.Bool.{cases_lt, eq-eqb}
use Rattle.lol_base.specs.PlaceLaws.{at_within, some_is}
use Rattle.lol_rows.specs.KeyTables.{RiseWhereEqual}
use Rattle.lol_rows.specs.declared.key_table.Entry.{Entry}

-- the entries of the first hashes, by address
pub record AreListed (hashes : List ℕ) (n : ℕ) (entries : List Entry) : Type 0 where
  pub many : length entries ≡ n
  pub each : (k : ℕ) (d : Entry) → k < n → get_or entries k d ≡ record { hash = get_or hashes k 0; address = k }

pub none_listed : (hashes : List ℕ) (entries : List Entry) → entries ≡ [] → AreListed hashes 0 entries
none_listed hashes entries none = record { many = ap length none; each = λ k d below. absurd (omega (arith, below)) }

pub one_more : (hashes : List ℕ) (n : ℕ) (entries more : List Entry) (hash : ℕ) → AreListed hashes n entries → hash ≡ get_or hashes n 0
    → more ≡ entries ++ record { hash = hash; address = n } ∷ [] → AreListed hashes (n + 1) more
one_more hashes n entries more hash listed at is = record {
  many = ap length is ∙ length-append entries (record { hash = hash; address = n } ∷ []) ∙ ap (λ k. k + 1) listed.many;
  each = λ k d below. ap (λ (l : List Entry). get_or l k d) is ∙ by_place k d below (cases_lt k n);
}
  where
    by_place : (k : ℕ) (d : Entry) → k < n + 1 → (k < n) ⊎ (n ≤ k) → get_or (entries ++ record { hash = hash; address = n } ∷ []) k d ≡ record { hash = get_or hashes k 0; address = k }
    by_place k d below (inl less) = get_or_append_left entries (record { hash = hash; address = n } ∷ []) d k (omega (arith, less, listed.many)) ∙ listed.each k d less
    by_place k d below (inr more) =
        let same : k ≡ length entries + 0 = omega (arith, below, more, listed.many) in
        let here : n ≡ k = omega (arith, below, more) in
        ap (λ j. get_or (entries ++ record { hash = hash; address = n } ∷ []) j d) same
        ∙ (get_or-append-add entries (record { hash = hash; address = n } ∷ []) 0 d ∙ λ i. record { hash = (at ∙ ap (λ j. get_or hashes j 0) here) i; address = here i })

got : (xs : List ℕ) (k : ℕ) → k < length xs → slice_get xs k ≡ Some (get_or xs k 0)
got [] k within = absurd (omega (arith, within))
got (x ∷ xs) zero within = refl
got (x ∷ xs) (suc k) within = got xs k (omega (arith, within))

-- All entries are those of the hashes, in whatever order.
pub are_members : (hashes : List ℕ) (entries sorted : List Entry) → AreListed hashes (length hashes) entries → IsPermutation entries sorted
    → (entry : Entry) → Contains sorted entry ↔ (slice_get hashes entry.address ≡ Some entry.hash)
are_members hashes entries sorted listed same entry = (
  λ h.
      let there = Contains-permutation sorted entries entry (IsPermutation-sym entries sorted same) h in
      let below : there.0 < length hashes = omega (arith, there.1, listed.many) in
      let is : entry ≡ record { hash = get_or hashes there.0 0; address = there.0 } = sym there.2 ∙ listed.each there.0 entry below in
      ap (λ (e : Entry). slice_get hashes e.address) is ∙ (got hashes there.0 below ∙ sym (ap (λ (e : Entry). Some e.hash) is)),
  λ at.
      let below = at_within hashes entry.address entry.hash at in
      let hash : get_or hashes entry.address 0 ≡ entry.hash = some_is (sym (got hashes entry.address below) ∙ at) in
      Contains-permutation entries sorted entry same
      (entry.address, omega (arith, below, listed.many), listed.each entry.address entry below ∙ λ i. record { hash = hash i; address = entry.address }),
)

-- addresses that rise from one entry to the next where the hash is the same
pub rise_where_equal : (entries : List Entry) → IsNonDecreasingBy (λ entry. entry.hash) entries
    → ((k : ℕ) (d : Entry) → k + 1 < length entries → (get_or entries k d).hash ≡ (get_or entries (k + 1) d).hash → (get_or entries k d).address ≤ (get_or entries (k + 1) d).address)
    → RiseWhereEqual entries
rise_where_equal entries up next i j d low high same = subst (λ k. (get_or entries i d).address ≤ (get_or entries k d).address) whole (far (j - i) (omega (arith, low, high)) (same ∙ ap (λ k. (get_or entries k d).hash) (sym whole)))
  where
    whole : i + (j - i) ≡ j
    whole = omega (arith, low)

    far : (m : ℕ) → i + m < length entries → (get_or entries i d).hash ≡ (get_or entries (i + m) d).hash → (get_or entries i d).address ≤ (get_or entries (i + m) d).address
    far zero within same =
        let here : i ≡ i + 0 = omega arith in omega (arith, ap (λ k. (get_or entries k d).address) here)
    far (suc m) within same =
        let step : i + m + 1 ≡ i + suc m = omega arith in
        let before = up i (i + m) d (omega arith) (omega (arith, within)) in
        let after = up (i + m) (i + suc m) d (omega arith) within in
        let equal : (get_or entries i d).hash ≡ (get_or entries (i + m) d).hash = omega (arith, before, after, same) in
        let last : (get_or entries (i + m) d).hash ≡ (get_or entries (i + m + 1) d).hash = sym equal ∙ (same ∙ ap (λ k. (get_or entries k d).hash) (sym step)) in
        omega (arith, far m (omega (arith, within)) equal, next (i + m) d (omega (arith, within)) last, ap (λ k. (get_or entries k d).address) step)

-- What the order of entries, by hash and then by address, says of two that stand side by side.
is_less : (x y : ℕ) → x < y → is_lt (nat_cmp x y) ≡ true
is_less x y less = ap (λ b. is_lt (cond b Less (cond (x == y) Equal Greater))) (lt-ltb x y less)

least : (x y : ℕ) → is_lt (nat_cmp x y) ≡ false → y ≤ x
least x y h = by_place (cases_lt x y)
  where
    by_place : (x < y) ⊎ (y ≤ x) → y ≤ x
    by_place (inl less) = absurd (true≢false (sym (is_less x y less) ∙ h))
    by_place (inr most) = most

same_number : (x y : ℕ) → x ≡ y → nat_cmp x y ≡ Equal
same_number x y same = (λ i. cond (le-ltb x y (omega (arith, same)) i) Less (cond (eq-eqb x y same i) Equal Greater))

first_decides : (o p : Ordering) → is_lt (ordering_then o p) ≡ false → is_lt o ≡ false
first_decides Less p h = h
first_decides Equal p h = refl
first_decides Greater p h = refl

-- by hash, and then by address
abbrev pub AreOrdered : List Entry → Type 0
AreOrdered entries =
    (k : ℕ) (d : Entry) → 0 ≤ k → k + 1 < length entries
    → is_lt (ordering_then (nat_cmp (get_or entries (k + 1) d).hash (get_or entries k d).hash) (nat_cmp (get_or entries (k + 1) d).address (get_or entries k d).address)) ≡ false

pub hashes_rise : (entries : List Entry) → AreOrdered entries → IsNonDecreasingBy (λ entry. entry.hash) entries
hashes_rise entries ordered = IsNonDecreasingBy-from_sort (λ (entry : Entry). entry.hash) entries (λ k d low high. first_decides _ _ (ordered k d low high))

pub addresses_rise_in_rows : (entries : List Entry) → AreOrdered entries
    → (k : ℕ) (d : Entry) → k + 1 < length entries → (get_or entries k d).hash ≡ (get_or entries (k + 1) d).hash → (get_or entries k d).address ≤ (get_or entries (k + 1) d).address
addresses_rise_in_rows entries ordered k d high same =
    least (get_or entries (k + 1) d).address (get_or entries k d).address
    (sym (ap (λ o. is_lt (ordering_then o (nat_cmp (get_or entries (k + 1) d).address (get_or entries k d).address))) (same_number (get_or entries (k + 1) d).hash (get_or entries k d).hash (sym same)))
    ∙ ordered k d (omega arith) high)
