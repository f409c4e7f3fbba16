-- Entries that stand side by side, up to a place and from one on.
use Rattle.std.specs.List.{slice_get}
use Rattle.std.proofs.lemmas.Option.{slice_get-get_or}
use Rattle.std.proofs.Common.{◌≡◌, ℕ, Some, ◌+◌, ◌-◌, ◌<◌, ◌≤◌, Bool, true, false, List, length, take, drop, get_or, Contains, ◌↔◌, ◌⊎◌, inl, inr, true≢false, sym, ap, ◌∙◌, subst, arith, leb, ltb, leb-true, ltb-true, ltb-false, le-leb, le-ltb, lt-ltb}
use Rattle.std.specs.List.Sorted.{IsNonDecreasingBy, IsPartitionPoint, IsPartitionedBy}
use Rattle.std.proofs.lemmas.List.{length-drop, length-take-le, take_all, get_or-take, get_or-drop, get_or_default}
use Rattle.std.proofs.lemmas.List.Sorted.{IsNonDecreasingBy-take, IsPartitionedBy-leb, IsPartitionedBy-ltb}
use Rattle.std.proofs.lemmas.Bool.{cases_lt}
use Rattle.lol_rows.specs.KeyTables.{IsEntryWithin, IsTableOf, RiseWhereEqual}
use Rattle.lol_rows.specs.declared.key_table.Entry.{Entry}
use Rattle.lol_rows.specs.declared.key_table.KeyTable.{KeyTable}

-- the part of a list from a place on
abbrev pub from_place : {X : Type 0} → ℕ → List X → List X
from_place k xs = take (length xs - k) (drop k xs)

pub from_place_is : {X : Type 0} (k : ℕ) (xs : List X) → from_place k xs ≡ drop k xs
from_place_is k xs = take_all (length xs - k) (drop k xs) (omega (arith, length-drop k xs))

module _ {X : Type 0} (q : X → Bool) (xs : List X) (i : ℕ) (within : i ≤ length xs) (point : IsPartitionPoint (λ y. q y ≡ true) (λ y. q y ≡ false) xs i) where
  pub in_front : (x : X) → Contains (take i xs) x ↔ (Contains xs x × (q x ≡ true))
  in_front x = (
    λ h.
        let below : h.0 < i = omega (arith, h.1, length-take-le i xs within) in
        let at : get_or xs h.0 x ≡ x = sym (get_or-take i xs h.0 x below) ∙ h.2 in
        ((h.0, omega (arith, below, within), at), subst (λ y. q y ≡ true) at (point.0 h.0 x (omega arith) below)),
    λ h. by_place h.0.0 h.0.1 h.0.2 h.1 (cases_lt h.0.0 i),
  )
    where
      by_place : (k : ℕ) → k < length xs → get_or xs k x ≡ x → q x ≡ true → (k < i) ⊎ (i ≤ k) → Contains (take i xs) x
      by_place k inside at passes (inl below) = (k, omega (arith, below, length-take-le i xs within), get_or-take i xs k x below ∙ at)
      by_place k inside at passes (inr above) =
          let fails : q x ≡ false = subst (λ y. q y ≡ false) at (point.1 k x above inside) in absurd (true≢false (sym passes ∙ fails))

  pub in_back : (x : X) → Contains (from_place i xs) x ↔ (Contains xs x × (q x ≡ false))
  in_back x = (
    λ h.
        let there : Contains (drop i xs) x = subst (λ l. Contains l x) (from_place_is i xs) h in
        let inside : i + there.0 < length xs = omega (arith, there.1, length-drop i xs) in
        let at : get_or xs (i + there.0) x ≡ x = sym (get_or-drop i xs there.0 x) ∙ there.2 in
        ((i + there.0, inside, at), subst (λ y. q y ≡ false) at (point.1 (i + there.0) x (omega arith) inside)),
    λ h. subst (λ l. Contains l x) (sym (from_place_is i xs)) (by_place h.0.0 h.0.1 h.0.2 h.1 (cases_lt h.0.0 i)),
  )
    where
      by_place : (k : ℕ) → k < length xs → get_or xs k x ≡ x → q x ≡ false → (k < i) ⊎ (i ≤ k) → Contains (drop i xs) x
      by_place k inside at fails (inl below) =
          let passes : q x ≡ true = subst (λ y. q y ≡ true) at (point.0 k x (omega arith) below) in absurd (true≢false (sym passes ∙ fails))
      by_place k inside at fails (inr above) =
          let place : i + (k - i) ≡ k = omega (arith, above) in
          (k - i, omega (arith, above, inside, length-drop i xs), get_or-drop i xs (k - i) x ∙ (ap (λ n. get_or xs n x) place ∙ at))

-- entries of one hash rise by their addresses
one_hash_rises : (entries : List Entry) (first last : ℕ) (hash : ℕ) → last ≤ length entries → RiseWhereEqual entries
    → ((entry : Entry) → Contains (from_place first (take last entries)) entry → entry.hash ≡ hash)
    → IsNonDecreasingBy (λ entry. entry.address) (from_place first (take last entries))
one_hash_rises entries first last hash bound rise same i j d low high =
    subst (λ (l : List Entry). (get_or l i d).address ≤ (get_or l j d).address) (sym whole)
    (subst (λ (e : Entry). e.address ≤ (get_or run j d).address) (sym (at i inside_i))
    (subst (λ (e : Entry). (get_or entries (first + i) d).address ≤ e.address) (sym (at j inside_j))
    (rise (first + i) (first + j) d (omega (arith, low)) (omega (arith, inside_j, bound, size)) (equal i inside_i ∙ sym (equal j inside_j)))))
  where
    front : List Entry
    front = take last entries

    run : List Entry
    run = drop first front

    whole : from_place first front ≡ run
    whole = from_place_is first front

    size : length front ≡ last
    size = length-take-le last entries bound

    inside_j : first + j < length front
    inside_j = omega (arith, high, ap length whole, length-drop first front)

    inside_i : first + i < length front
    inside_i = omega (arith, low, inside_j)

    at : (k : ℕ) → first + k < length front → get_or run k d ≡ get_or entries (first + k) d
    at k inside = get_or-drop first front k d ∙ get_or-take last entries (first + k) d (omega (arith, inside, size))

    equal : (k : ℕ) → first + k < length front → (get_or entries (first + k) d).hash ≡ hash
    equal k inside =
        let there : k < length run = omega (arith, inside, length-drop first front) in
        ap (λ (e : Entry). e.hash) (sym (at k inside))
        ∙ same (get_or run k d) (subst (λ (l : List Entry). Contains l (get_or run k d)) (sym whole) (k, there, get_or_default run k (get_or run k d) d there))

-- where a search for the end of those that pass ends
abbrev pub Ends : (Entry → Bool) → List Entry → ℕ → Type 0
Ends q xs i = IsPartitionedBy q xs → IsPartitionPoint (λ y. q y ≡ true) (λ y. q y ≡ false) xs i

-- Where the last entry up to a hash hasn't this hash, none has.
pub none_within : (all : List ℕ) (t : KeyTable) (E : List Entry) (hash start end a : ℕ) → IsTableOf all t → E ≡ t.entries.items → a ≤ length E → Ends (λ e. leb e.hash hash) E a
    → ((last : Entry) → slice_get (take a E) (length (take a E) - 1) ≡ Some last → last.hash ≡ hash → ⊥) → (entry : Entry) → IsEntryWithin all hash start end entry → ⊥
none_within all t E hash start end a is whole in_a end_a not_last entry w =
    let first = (in_front upto E a in_a point entry).1 (subst (λ (l : List Entry). Contains l entry) (sym whole) ((is.members entry).1 w.hashed), le-leb _ _ (omega (arith, w.same))) in
    let n = length front - 1 in
    let inside : n < length front = omega (arith, first.1) in
    let last = get_or front n entry in
    let low = leb-true _ _ ((in_front upto E a in_a point last).0 (n, inside, get_or_default front n last entry inside)).1 in
    let rises = IsNonDecreasingBy-take (λ (e : Entry). e.hash) a E by_hash first.0 n entry (omega (arith, first.1)) inside in
    let mine : (get_or front first.0 entry).hash ≡ hash = ap (λ (e : Entry). e.hash) first.2 ∙ w.same in
    not_last last (slice_get-get_or front n entry inside) (omega (arith, low, rises, mine))
  where
    front : List Entry
    front = take a E

    upto : Entry → Bool
    upto = λ e. leb e.hash hash

    by_hash : IsNonDecreasingBy (λ (e : Entry). e.hash) E
    by_hash = subst (IsNonDecreasingBy (λ (e : Entry). e.hash)) (sym whole) is.by_hash

    point : IsPartitionPoint (λ e. upto e ≡ true) (λ e. upto e ≡ false) E a
    point = end_a (IsPartitionedBy-leb (λ (e : Entry). e.hash) E hash by_hash)

-- The four searches of a range with a hash find its entries, and no others.
pub are_within : (all : List ℕ) (t : KeyTable) (E : List Entry) (hash start end a b k d : ℕ) → IsTableOf all t → E ≡ t.entries.items
    → a ≤ length E → b ≤ length (take a E) → k ≤ length (from_place b (take a E)) → d ≤ length (take k (from_place b (take a E)))
    → Ends (λ e. leb e.hash hash) E a → Ends (λ e. ltb e.hash hash) (take a E) b
    → Ends (λ e. ltb e.address end) (from_place b (take a E)) k → Ends (λ e. ltb e.address start) (take k (from_place b (take a E))) d
    → (entry : Entry) → Contains (from_place d (take k (from_place b (take a E)))) entry ↔ IsEntryWithin all hash start end entry
are_within all t E hash start end a b k d is whole in_a in_b in_k in_d end_a end_b end_k end_d entry = (
  λ h.
      let fourth = (in_back at_start low d in_d point_d entry).0 h in
      let third = (in_front at_end run k in_k point_k entry).0 fourth.0 in
      let found = one_hash entry third.0 in
      record {
        hashed = (is.members entry).0 (subst (λ (l : List Entry). Contains l entry) whole found.0);
        same = found.1;
        low = ltb-false _ _ fourth.1;
        high = ltb-true _ _ third.1;
      },
  λ w.
      let first = (in_front upto E a in_a point_a entry).1 (subst (λ (l : List Entry). Contains l entry) (sym whole) ((is.members entry).1 w.hashed), le-leb _ _ (omega (arith, w.same))) in
      let second = (in_back below front b in_b point_b entry).1 (first, le-ltb _ _ (omega (arith, w.same))) in
      let third = (in_front at_end run k in_k point_k entry).1 (second, lt-ltb _ _ w.high) in
      (in_back at_start low d in_d point_d entry).1 (third, le-ltb _ _ w.low),
)
  where
    front : List Entry
    front = take a E

    run : List Entry
    run = from_place b front

    low : List Entry
    low = take k run

    upto : Entry → Bool
    upto = λ e. leb e.hash hash

    below : Entry → Bool
    below = λ e. ltb e.hash hash

    at_end : Entry → Bool
    at_end = λ e. ltb e.address end

    at_start : Entry → Bool
    at_start = λ e. ltb e.address start

    by_hash : IsNonDecreasingBy (λ (e : Entry). e.hash) E
    by_hash = subst (IsNonDecreasingBy (λ (e : Entry). e.hash)) (sym whole) is.by_hash

    point_a : IsPartitionPoint (λ e. upto e ≡ true) (λ e. upto e ≡ false) E a
    point_a = end_a (IsPartitionedBy-leb (λ (e : Entry). e.hash) E hash by_hash)

    point_b : IsPartitionPoint (λ e. below e ≡ true) (λ e. below e ≡ false) front b
    point_b = end_b (IsPartitionedBy-ltb (λ (e : Entry). e.hash) front hash (IsNonDecreasingBy-take (λ (e : Entry). e.hash) a E by_hash))

    one_hash : (e : Entry) → Contains run e → Contains E e × (e.hash ≡ hash)
    one_hash e h =
        let second = (in_back below front b in_b point_b e).0 h in
        let first = (in_front upto E a in_a point_a e).0 second.0 in
        (first.0, omega (arith, leb-true _ _ first.1, ltb-false _ _ second.1))

    by_address : IsNonDecreasingBy (λ (e : Entry). e.address) run
    by_address = one_hash_rises E b a hash in_a (subst RiseWhereEqual (sym whole) is.by_address) (λ e h. (one_hash e h).1)

    point_k : IsPartitionPoint (λ e. at_end e ≡ true) (λ e. at_end e ≡ false) run k
    point_k = end_k (IsPartitionedBy-ltb (λ (e : Entry). e.address) run end by_address)

    point_d : IsPartitionPoint (λ e. at_start e ≡ true) (λ e. at_start e ≡ false) low d
    point_d = end_d (IsPartitionedBy-ltb (λ (e : Entry). e.address) low start (IsNonDecreasingBy-take (λ (e : Entry). e.address) k run by_address))
