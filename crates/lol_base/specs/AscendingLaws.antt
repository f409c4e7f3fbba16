-- Strictly ascending lists: what they hold, and that this determines them.
use Rattle.std.proofs.Common.{◌≡◌, ℕ, suc, ◌<◌, get_or, Bool, true, false, cond, List, [], ◌∷◌, ◌⊎◌, inl, inr, refl, sym, subst, arith}
use Rattle.std.specs.Prelude.{nat_lt, ◌==◌}
use Rattle.std.proofs.lemmas.Bool.Decides.{Decides-ltb, Decides-eqb}
use Rattle.std.proofs.lemmas.List.Kept.{AllPairs-cons}
use Rattle.lol_base.specs.Ascending.{AscendingIsDetermined, IsStrictlyAscending, ascending_once, with_number}
use Rattle.lol_base.specs.ListLaws.{get_or-any}
use Rattle.lol_base.specs.MemberLaws.{Among, among_from_contains, contains_from_among}

-- 1. Strictly ascending lists

abbrev pub Ascends : List ℕ → Type 0
Ascends [] = Unit {0}
Ascends (n ∷ ns) = ((m : ℕ) → Among ns m → n < m) × Ascends ns

pub pairs_from_ascends : (ns : List ℕ) → Ascends ns → IsStrictlyAscending ns
pairs_from_ascends [] h = λ i j d below within. absurd (omega (arith, within))
pairs_from_ascends (n ∷ ns) h =
    AllPairs-cons (λ m k. m < k) n ns (λ i d within. h.0 (get_or ns i d) (among_from_contains ns (get_or ns i d) (i, within, get_or-any ns i (get_or ns i d) d within))) (pairs_from_ascends ns h.1)

pub ascends_from_pairs : (ns : List ℕ) → IsStrictlyAscending ns → Ascends ns
ascends_from_pairs [] h = tt
ascends_from_pairs (n ∷ ns) h = (
  λ m a. let at = contains_from_among ns m a in subst (λ k. n < k) at.2 (h 0 (suc at.0) m (omega arith) (omega (arith, at.1))),
  ascends_from_pairs ns (λ i j d below within. h (suc i) (suc j) d (omega (arith, below)) (omega (arith, within))),
)

pub determined : (ms ns : List ℕ) → Ascends ms → Ascends ns → ((n : ℕ) → Among ms n → Among ns n) → ((n : ℕ) → Among ns n → Among ms n) → ms ≡ ns
determined [] [] hm hn to from = refl
determined [] (n ∷ ns) hm hn to from = absurd (from n (inl refl))
determined (m ∷ ms) [] hm hn to from = absurd (to m (inl refl))
determined (m ∷ ms) (n ∷ ns) hm hn to from =
    let same : m ≡ n = first (to m (inl refl)) (from n (inl refl)) in
    λ i. same i ∷ determined ms ns hm.1 hn.1 (λ k a. after same k a (to k (inr a))) (λ k a. before same k a (from k (inr a))) i
  where
    first : Among (n ∷ ns) m → Among (m ∷ ms) n → m ≡ n
    first (inl is) b = sym is
    first (inr a) (inl is) = is
    first (inr a) (inr b) = absurd (omega (arith, hn.0 m a, hm.0 n b))

    after : m ≡ n → (k : ℕ) → Among ms k → Among (n ∷ ns) k → Among ns k
    after same k a (inr b) = b
    after same k a (inl is) = absurd (omega (arith, hm.0 k a, is, same))

    before : m ≡ n → (k : ℕ) → Among ns k → Among (m ∷ ms) k → Among ms k
    before same k a (inr b) = b
    before same k a (inl is) = absurd (omega (arith, hn.0 k a, is, same))

pub ascending_is_determined : AscendingIsDetermined
ascending_is_determined ms ns hm hn same =
    determined ms ns (ascends_from_pairs ms hm) (ascends_from_pairs ns hn)
    (λ n a. among_from_contains ns n ((same n).0 (contains_from_among ms n a)))
    (λ n a. among_from_contains ms n ((same n).1 (contains_from_among ns n a)))

-- 2. A number in its place

module _ (n : ℕ) where
  in_place : (x : ℕ) (xs : List ℕ) → (P : List ℕ → Type 0) → (n < x → P (n ∷ x ∷ xs)) → (n ≡ x → P (x ∷ xs)) → (x < n → P (x ∷ with_number n xs)) → P (with_number n (x ∷ xs))
  in_place x xs P below at above = by_tests (nat_lt n x) (n == x) (Decides-ltb n x) (Decides-eqb n x)
    where
      by_tests : (a b : Bool) → (a ≡ true → n < x) × (n < x → a ≡ true) → (b ≡ true → n ≡ x) × (n ≡ x → b ≡ true) → P (cond a (n ∷ x ∷ xs) (cond b (x ∷ xs) (x ∷ with_number n xs)))
      by_tests true b less same = below (less.0 refl)
      by_tests false true less same = at (same.0 refl)
      by_tests false false less same =
          let not_less : n < x → ⊥ = λ h. let e = less.1 h in cc in
          let not_same : n ≡ x → ⊥ = λ h. let e = same.1 h in cc in
          above (grind arith)

  pub among_with_number : (xs : List ℕ) (m : ℕ) → Among (with_number n xs) m → (n ≡ m) ⊎ Among xs m
  among_with_number [] m = λ h. h
  among_with_number (x ∷ xs) m = let more = among_with_number xs m in in_place x xs (λ ys. Among ys m → (n ≡ m) ⊎ Among (x ∷ xs) m) (λ less h. h) (λ same h. inr h)
      (λ greater h. elim h [ inl is ↦ inr (inl is) | inr a ↦ elim (more a) [ inl is ↦ inl is | inr b ↦ inr (inr b) ] ])

  pub number_among : (xs : List ℕ) → Among (with_number n xs) n
  number_among [] = inl refl
  number_among (x ∷ xs) = let more = number_among xs in in_place x xs (λ ys. Among ys n) (λ less. inl refl) (λ same. inl (sym same)) (λ greater. inr more)

  pub others_among : (xs : List ℕ) (m : ℕ) → Among xs m → Among (with_number n xs) m
  others_among [] m = λ h. absurd h
  others_among (x ∷ xs) m = let more = others_among xs m in in_place x xs (λ ys. Among (x ∷ xs) m → Among ys m) (λ less h. inr h) (λ same h. h)
      (λ greater h. elim h [ inl is ↦ inl is | inr a ↦ inr (more a) ])

  with_number_ascends : (xs : List ℕ) → Ascends xs → Ascends (with_number n xs)
  with_number_ascends [] h = (λ m a. absurd a, tt)
  with_number_ascends (x ∷ xs) h = let more = with_number_ascends xs h.1 in in_place x xs Ascends
      (λ less. (λ m a. elim a [ inl is ↦ subst (λ k. n < k) is less | inr b ↦ omega (arith, less, h.0 m b) ], h))
      (λ same. h)
      (λ greater. (λ m a. elim (among_with_number xs m a) [ inl is ↦ subst (λ k. x < k) is greater | inr b ↦ h.0 m b ], more))

-- 3. Each number once

pub ascending_ascends : (ns : List ℕ) → Ascends (ascending_once ns)
ascending_ascends [] = tt
ascending_ascends (n ∷ ns) = with_number_ascends n (ascending_once ns) (ascending_ascends ns)

pub among_ascending : (ns : List ℕ) (m : ℕ) → Among (ascending_once ns) m → Among ns m
among_ascending [] m h = h
among_ascending (n ∷ ns) m h = let more = among_ascending ns m in elim (among_with_number n (ascending_once ns) m h) [ inl is ↦ inl is | inr a ↦ inr (more a) ]

pub ascending_among : (ns : List ℕ) (m : ℕ) → Among ns m → Among (ascending_once ns) m
ascending_among [] m h = h
ascending_among (n ∷ ns) m (inl is) = subst (Among (with_number n (ascending_once ns))) is (number_among n (ascending_once ns))
ascending_among (n ∷ ns) m (inr a) = others_among n (ascending_once ns) m (ascending_among ns m a)
