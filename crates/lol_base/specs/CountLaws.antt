-- How many elements pass a test, and consecutive numbers.
use Rattle.std.proofs.Common.{◌≡◌, ℕ, zero, suc, ◌+◌, ◌-◌, ◌<◌, ◌≤◌, Bool, true, false, cond, List, [], ◌∷◌, length, Some, inl, inr, refl, sym, ap, ◌∙◌, subst, arith, count_by, slice_get}
use Rattle.std.specs.List.{range_with_len}
use Rattle.std.proofs.lemmas.List.FromFn.{length-range_with_len, get_or-range_with_len}
use Rattle.lol_base.specs.MemberLaws.{Among, Distinct, all_counted, among_from_contains, count_by-cons}

-- 1. Consecutive numbers

pub among_range : (a n k : ℕ) → Among (range_with_len a n) k → (a ≤ k) × (k < a + n)
among_range a zero k h = absurd h
among_range a (suc n) k (inl is) = (omega (arith, is), omega (arith, is))
among_range a (suc n) k (inr h) = let rest = among_range (a + 1) n k h in (omega (arith, rest.0), omega (arith, rest.1))

pub range_among : (a n k : ℕ) → a ≤ k → k < a + n → Among (range_with_len a n) k
range_among a n k low high =
    let within : k - a < n = omega (arith, low, high) in
    among_from_contains (range_with_len a n) k (k - a, subst (λ m. k - a < m) (sym (length-range_with_len a n)) within, get_or-range_with_len a n (k - a) k within ∙ omega (arith, low))

pub distinct_range : (a n : ℕ) → Distinct (range_with_len a n)
distinct_range a zero = tt
distinct_range a (suc n) = (λ again. let at = among_range (a + 1) n a again in omega (arith, at.0), distinct_range (a + 1) n)

-- 2. Elements that pass, by their places

pub is_at : {A : Type 0} → (A → Bool) → List A → ℕ → Bool
is_at q [] k = false
is_at q (x ∷ xs) zero = q x
is_at q (x ∷ xs) (suc k) = is_at q xs k

module _ {A : Type 0} (q : A → Bool) where
  pub is_at_of : (xs : List A) (k : ℕ) → is_at q xs k ≡ true → (x : A) × (slice_get xs k ≡ Some x) × (q x ≡ true)
  unfolding is_at
  is_at_of [] k h = cc
  is_at_of (x ∷ xs) zero h = (x, refl, h)
  is_at_of (x ∷ xs) (suc k) h = is_at_of xs k h

  pub is_at_is : (xs : List A) (k : ℕ) (x : A) → slice_get xs k ≡ Some x → is_at q xs k ≡ q x
  unfolding is_at
  is_at_is [] k x at = cc
  is_at_is (y ∷ xs) zero x at = let is : y ≡ x = cc in ap q is
  is_at_is (y ∷ xs) (suc k) x at = is_at_is xs k x at

pub count_same : {A : Type 0} (p r : A → Bool) (xs : List A) → ((x : A) → Among xs x → p x ≡ r x) → count_by p xs ≡ count_by r xs
count_same p r [] h = refl
count_same p r (x ∷ xs) h =
    count_by-cons p x xs
    ∙ ((λ i. cond (h x (inl refl) i) 1 0 + count_same p r xs (λ y a. h y (inr a)) i)
    ∙ sym (count_by-cons r x xs))

-- the elements that pass, by their places from a number on
count_from : {A : Type 0} (q : A → Bool) (xs : List A) (a : ℕ) → count_by q xs ≡ count_by (λ k. is_at q xs (k - a)) (range_with_len a (length xs))
unfolding is_at
count_from q [] a = refl
count_from q (x ∷ xs) a =
    let here : 0 ≡ a - a = omega arith in
    let rest = count_same (λ k. is_at q xs (k - (a + 1))) (λ k. is_at q (x ∷ xs) (k - a)) (range_with_len (a + 1) (length xs)) (λ k h.
    let above = among_range (a + 1) (length xs) k h in
    let next : suc (k - (a + 1)) ≡ k - a = omega (arith, above.0) in
    ap (is_at q (x ∷ xs)) next) in
    count_by-cons q x xs
    ∙ ((λ i. cond (ap (is_at q (x ∷ xs)) here i) 1 0 + (count_from q xs (a + 1) ∙ rest) i)
    ∙ sym (count_by-cons (λ k. is_at q (x ∷ xs) (k - a)) a (range_with_len (a + 1) (length xs))))

pub count_by_places : {A : Type 0} (q : A → Bool) (xs : List A) → count_by q xs ≡ count_by (is_at q xs) (range_with_len 0 (length xs))
count_by_places q xs =
    count_from q xs 0 ∙ count_same (λ k. is_at q xs (k - 0)) (is_at q xs) (range_with_len 0 (length xs)) (λ k h. let same : k - 0 ≡ k = omega arith in ap (is_at q xs) same)

pub count_all : {A : Type 0} (p : A → Bool) (xs : List A) → ((x : A) → Among xs x → p x ≡ true) → count_by p xs ≡ length xs
count_all p xs h = count_same p (λ x. true) xs h ∙ all_counted xs
