-- What comes of things that are run one after the other: in parts, of a list that is mapped, and alike of two kinds.
use Rattle.std.proofs.Common.{◌≡◌, ◌+◌, ℕ, Bool, List, [], ◌∷◌, ◌++◌, length, map, Some, None, true, false, cond, refl, sym, ap, ◌∙◌, arith, count_by}
use Rattle.std.specs.Option.{option_map, option_or}
use Rattle.std.specs.List.{position_from}
use Rattle.lol_base.specs.MemberLaws.{map-map}
use Rattle.lol_instructions.specs.Compounds.{is_open}
use Rattle.lol_machine.specs.Outcomes.{give_if, given_by_names, given_with_attributes, is_true}
use Rattle.std.specs.List.{sum}
use Rattle.std.proofs.lemmas.List.Sums.{sum-map}
use Rattle.lol_instructions.specs.declared.name_value.NameValue.{NameValue}

-- 1. The first that passes a test

module _ {A : Type 0} (test : A → Bool) where
  -- where the front has none, the back decides
  pub position_from-append : (at : ℕ) (front back : List A) → position_from test at (front ++ back) ≡ option_or (position_from test at front) (position_from test (at + length front) back)
  position_from-append at [] back = ap (λ n. position_from test n back) (omega arith)
  position_from-append at (x ∷ front) back = by_test (test x) (position_from-append (at + 1) front back)
    where
      by_test : (b : Bool) → position_from test (at + 1) (front ++ back) ≡ option_or (position_from test (at + 1) front) (position_from test (at + 1 + length front) back)
          → cond b (Some at) (position_from test (at + 1) (front ++ back)) ≡ option_or (cond b (Some at) (position_from test (at + 1) front)) (position_from test (at + length (x ∷ front)) back)
      by_test true later = refl
      by_test false later = later ∙ ap (λ n. option_or (position_from test (at + 1) front) (position_from test n back)) (omega arith)

  -- counted from a later index
  later : (at j : ℕ) (xs : List A) → position_from test (at + j) xs ≡ option_map (λ n. at + n) (position_from test j xs)
  later at j [] = refl
  later at j (x ∷ xs) = by_test (test x) (ap (λ n. position_from test n xs) (omega arith) ∙ later at (j + 1) xs)
    where
      by_test : (b : Bool) → position_from test ((at + j) + 1) xs ≡ option_map (λ n. at + n) (position_from test (j + 1) xs)
          → cond b (Some (at + j)) (position_from test ((at + j) + 1) xs) ≡ option_map (λ n. at + n) (cond b (Some j) (position_from test (j + 1) xs))
      by_test true rest = refl
      by_test false rest = rest

  pub from_first : (at : ℕ) (xs : List A) → position_from test at xs ≡ option_map (λ n. at + n) (position_from test 0 xs)
  from_first at xs = ap (λ n. position_from test n xs) (omega arith) ∙ later at 0 xs

module _ {A B : Type 0} (f : A → B) where
  pub position_from-map : (test : B → Bool) (at : ℕ) (xs : List A) → position_from test at (map f xs) ≡ position_from (λ x. test (f x)) at xs
  position_from-map test at [] = refl
  position_from-map test at (x ∷ xs) = ap (cond (test (f x)) (Some at)) (position_from-map test (at + 1) xs)

  pub count_by-map : (test : B → Bool) (xs : List A) → count_by test (map f xs) ≡ count_by (λ x. test (f x)) xs
  count_by-map test xs = sym (sum-map (λ y. cond (test y) 1 0) (map f xs)) ∙ (ap sum (map-map (λ y. cond (test y) 1 0) f xs) ∙ sum-map (λ x. cond (test (f x)) 1 0) xs)

-- 2. What is given

module _ {A C : Type 0} (give : A → C → C) where
  pub attributes-append : (holds : A → Bool) (c : C) (front back : List A) → given_with_attributes give holds c (front ++ back) ≡ given_with_attributes give holds (given_with_attributes give holds c front) back
  attributes-append holds c [] back = refl
  attributes-append holds c (x ∷ front) back = attributes-append holds (give_if give (holds x) x c) front back

  module _ (value : A → NameValue) where
    abbrev opens : A → Bool
    opens x = is_open (value x)

    abbrev next : A → C → C
    next x c = give_if give (is_true (value x)) x c

    -- where the front has no open one, the back goes on
    pub names-on : (at : ℕ) (c : C) (front back : List A) → position_from opens at front ≡ None → given_by_names give value c (front ++ back) ≡ given_by_names give value (given_by_names give value c front) back
    names-on at c [] back none = refl
    names-on at c (x ∷ front) back none = by_test (opens x) none (names-on (at + 1) (next x c) front back)
      where
        by_test : (b : Bool) → cond b (Some at) (position_from opens (at + 1) front) ≡ None
            → (position_from opens (at + 1) front ≡ None → given_by_names give value (next x c) (front ++ back) ≡ given_by_names give value (given_by_names give value (next x c) front) back)
            → cond b c (given_by_names give value (next x c) (front ++ back)) ≡ given_by_names give value (cond b c (given_by_names give value (next x c) front)) back
        by_test true none rest = cc
        by_test false none rest = rest none

    -- where it has one, that is all
    pub names-until : (at k : ℕ) (c : C) (front back : List A) → position_from opens at front ≡ Some k → given_by_names give value c (front ++ back) ≡ given_by_names give value c front
    names-until at k c [] back some = cc
    names-until at k c (x ∷ front) back some = by_test (opens x) some (names-until (at + 1) k (next x c) front back)
      where
        by_test : (b : Bool) → cond b (Some at) (position_from opens (at + 1) front) ≡ Some k
            → (position_from opens (at + 1) front ≡ Some k → given_by_names give value (next x c) (front ++ back) ≡ given_by_names give value (next x c) front)
            → cond b c (given_by_names give value (next x c) (front ++ back)) ≡ cond b c (given_by_names give value (next x c) front)
        by_test true some rest = refl
        by_test false some rest = rest some

module _ {A B C : Type 0} (give : B → C → C) (f : A → B) where
  if-map : (b : Bool) (x : A) (c : C) → give_if give b (f x) c ≡ give_if (λ x. give (f x)) b x c
  if-map true x c = refl
  if-map false x c = refl

  pub attributes-map : (holds : B → Bool) (c : C) (xs : List A) → given_with_attributes give holds c (map f xs) ≡ given_with_attributes (λ x. give (f x)) (λ x. holds (f x)) c xs
  attributes-map holds c [] = refl
  attributes-map holds c (x ∷ xs) =
      attributes-map holds (give_if give (holds (f x)) (f x) c) xs ∙ ap (λ d. given_with_attributes (λ x. give (f x)) (λ x. holds (f x)) d xs) (if-map (holds (f x)) x c)

  pub names-map : (value : B → NameValue) (c : C) (xs : List A) → given_by_names give value c (map f xs) ≡ given_by_names (λ x. give (f x)) (λ x. value (f x)) c xs
  names-map value c [] = refl
  names-map value c (x ∷ xs) =
      ap (cond (is_open (value (f x))) c)
      (names-map value (give_if give (is_true (value (f x))) (f x) c) xs ∙ ap (λ d. given_by_names (λ x. give (f x)) (λ x. value (f x)) d xs) (if-map (is_true (value (f x))) x c))

-- 3. What each keeps is kept by all

module _ {A C D : Type 0} (give : A → C → C) (other : A → D → D) (R : C → D → Type 0) (keeps : (x : A) (c : C) (d : D) → R c d → R (give x c) (other x d)) where
  kept_if : (b : Bool) (x : A) (c : C) (d : D) → R c d → R (give_if give b x c) (give_if other b x d)
  kept_if true x c d h = keeps x c d h
  kept_if false x c d h = h

  pub attributes_keep : (holds : A → Bool) (c : C) (d : D) (xs : List A) → R c d → R (given_with_attributes give holds c xs) (given_with_attributes other holds d xs)
  attributes_keep holds c d [] h = h
  attributes_keep holds c d (x ∷ xs) h = attributes_keep holds (give_if give (holds x) x c) (give_if other (holds x) x d) xs (kept_if (holds x) x c d h)

  pub names_keep : (value : A → NameValue) (c : C) (d : D) (xs : List A) → R c d → R (given_by_names give value c xs) (given_by_names other value d xs)
  names_keep value c d [] h = h
  names_keep value c d (x ∷ xs) h =
      by_test (is_open (value x)) (names_keep value (give_if give (is_true (value x)) x c) (give_if other (is_true (value x)) x d) xs (kept_if (is_true (value x)) x c d h))
    where
      by_test : (b : Bool) {c' : C} {d' : D} → R c' d' → R (cond b c c') (cond b d d')
      by_test true rest = h
      by_test false rest = rest
