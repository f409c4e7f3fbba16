-- Laws of lists that are gone through element by element.
use Rattle.std.proofs.Common.{◌≡◌, ℕ, zero, suc, ◌+◌, ◌<◌, ◌≤◌, arith, Bool, true, false, ◌&&◌, ◌||◌, List, [], ◌∷◌, ◌++◌, length, get_or, take, map, reverse, position, cond, not, Some, None, nat_lt, refl, sym, ap, ◌∙◌, ⊎_elim}
use Rattle.std.specs.List.{list_all, list_any, position_or_len}
use Rattle.std.proofs.lemmas.Bool.{cases_lt}
use Rattle.std.proofs.lemmas.List.{take_more, take_all, map-append, length-map, get_or-map, reverse-append}
use Rattle.std.proofs.lemmas.List.Folds.{list_all_more, list_any_more}
use Rattle.lol_base.specs.BoolLaws.{and-right_false, or-right_true}

-- 1. Tests of each element

-- one element more that passes
pub passes_more : {A : Type 0} (p : A → Bool) (xs : List A) (i : ℕ) (x : A) → i < length xs → x ≡ get_or xs i x → list_all p (take i xs) ≡ true → p x ≡ true → list_all p (take (i + 1) xs) ≡ true
passes_more p xs i x within at before here = list_all_more p xs i x within ∙ (λ j. before j && (ap p (sym at) ∙ here) j)

-- an element that doesn't
pub passes_not : {A : Type 0} (p : A → Bool) (xs : List A) (i : ℕ) (x : A) → i < length xs → x ≡ get_or xs i x → p x ≡ false → list_all p xs ≡ false
passes_not p [] i x within at h = absurd (omega (arith, within))
passes_not p (y ∷ xs) zero x within at h = ap (λ (b : Bool). b && list_all p xs) (ap p (sym at) ∙ h)
passes_not p (y ∷ xs) (suc i) x within at h = and-right_false (p y) (list_all p xs) (passes_not p xs i x (omega (arith, within)) at h)

pub passes_all : {A : Type 0} (p : A → Bool) (xs : List A) (i : ℕ) → length xs ≤ i → list_all p (take i xs) ≡ true → list_all p xs ≡ true
passes_all p xs i h before = ap (list_all p) (sym (take_all i xs h)) ∙ before

-- one element more that fails
pub fails_more : {A : Type 0} (p : A → Bool) (xs : List A) (i : ℕ) (x : A) → i < length xs → x ≡ get_or xs i x → list_any p (take i xs) ≡ false → p x ≡ false → list_any p (take (i + 1) xs) ≡ false
fails_more p xs i x within at before here = list_any_more p xs i x within ∙ (λ j. before j || (ap p (sym at) ∙ here) j)

-- an element that passes
pub passes_some : {A : Type 0} (p : A → Bool) (xs : List A) (i : ℕ) (x : A) → i < length xs → x ≡ get_or xs i x → p x ≡ true → list_any p xs ≡ true
passes_some p [] i x within at h = absurd (omega (arith, within))
passes_some p (y ∷ xs) zero x within at h = ap (λ (b : Bool). b || list_any p xs) (ap p (sym at) ∙ h)
passes_some p (y ∷ xs) (suc i) x within at h = or-right_true (p y) (list_any p xs) (passes_some p xs i x (omega (arith, within)) at h)

pub fails_all : {A : Type 0} (p : A → Bool) (xs : List A) (i : ℕ) → length xs ≤ i → list_any p (take i xs) ≡ false → list_any p xs ≡ false
fails_all p xs i h before = ap (list_any p) (sym (take_all i xs h)) ∙ before

-- 2. Two lists that agree, element by element

pub agreed : {A B C : Type 0} (f : A → C) (g : B → C) (xs : List A) (ys : List B) → length xs ≡ length ys → ((k : ℕ) (a : A) (b : B) → k < length xs → f (get_or xs k a) ≡ g (get_or ys k b)) → map f xs ≡ map g ys
agreed f g [] [] len h = refl
agreed f g [] (y ∷ ys) len h = absurd (omega (arith, len))
agreed f g (x ∷ xs) [] len h = absurd (omega (arith, len))
agreed f g (x ∷ xs) (y ∷ ys) len h = λ i. h 0 x y (omega arith) i ∷ agreed f g xs ys (omega (arith, len)) (λ k a b within. h (suc k) a b (omega (arith, within))) i

pub same_length : {A B C : Type 0} (f : A → C) (g : B → C) (xs : List A) (ys : List B) → map f xs ≡ map g ys → length xs ≡ length ys
same_length f g xs ys same = sym (length-map xs f) ∙ ap length same ∙ length-map ys g

pub at_place : {A B C : Type 0} (f : A → C) (g : B → C) (xs : List A) (ys : List B) (k : ℕ) (a : A) (b : B) → map f xs ≡ map g ys → k < length xs → f (get_or xs k a) ≡ g (get_or ys k b)
at_place f g xs ys k a b same within =
    let there : k < length ys = omega (arith, same_length f g xs ys same, within) in
    sym (get_or-map f xs k a (f a) within) ∙ ap (λ l. get_or l k (f a)) same ∙ get_or-map g ys k b (f a) there

pub get_or-any : {X : Type 0} (xs : List X) (i : ℕ) (d e : X) → i < length xs → get_or xs i d ≡ get_or xs i e
get_or-any [] i d e h = absurd (omega (arith, h))
get_or-any (x ∷ xs) zero d e h = refl
get_or-any (x ∷ xs) (suc i) d e h = get_or-any xs i d e (omega (arith, h))

-- one element more that agrees
pub agreed_more : {A B C : Type 0} (f : A → C) (g : B → C) (xs : List A) (ys : List B) (i : ℕ) (x : A) (y : B) → i < length xs → length xs ≡ length ys → x ≡ get_or xs i x → y ≡ get_or ys i y → f x ≡ g y
    → ((k : ℕ) (a : A) (b : B) → k < i → f (get_or xs k a) ≡ g (get_or ys k b)) → (k : ℕ) (a : A) (b : B) → k < i + 1 → f (get_or xs k a) ≡ g (get_or ys k b)
agreed_more f g xs ys i x y within len at at' here before k a b h = ⊎_elim (λ (lt : k < i). before k a b lt) (λ (le : i ≤ k). there (omega (arith, le, h))) (cases_lt k i)
  where
    there : k ≡ i → f (get_or xs k a) ≡ g (get_or ys k b)
    there e =
        let inside : i < length ys = omega (arith, within, len) in
        ap (λ (j : ℕ). f (get_or xs j a)) e ∙ ap f (get_or-any xs i a x within ∙ sym at) ∙ here ∙ ap g (at' ∙ get_or-any ys i y b inside) ∙ ap (λ (j : ℕ). g (get_or ys j b)) (sym e)

-- 3. What a map makes of a list

-- one element more
pub mapped_more : {A B : Type 0} (f : A → B) (xs : List A) (i : ℕ) (x : A) → i < length xs → x ≡ get_or xs i x → map f (take (i + 1) xs) ≡ map f (take i xs) ++ f x ∷ []
mapped_more f xs i x within at = ap (map f) (take_more xs i x within) ∙ map-append f (take i xs) (get_or xs i x ∷ []) ∙ ap (λ y. map f (take i xs) ++ f y ∷ []) (sym at)

pub mapped_all : {A B : Type 0} (f : A → B) (xs : List A) (i : ℕ) → length xs ≤ i → map f (take i xs) ≡ map f xs
mapped_all f xs i h = ap (map f) (take_all i xs h)

pub reverse-map : {A B : Type 0} (f : A → B) (xs : List A) → reverse (map f xs) ≡ map f (reverse xs)
reverse-map f [] = refl
reverse-map f (x ∷ xs) =
    reverse-append (f x ∷ []) (map f xs) ∙ ap (λ l. l ++ f x ∷ []) (reverse-map f xs) ∙ sym (map-append f (reverse xs) (x ∷ [])) ∙ ap (map f) (sym (reverse-append (x ∷ []) xs))

-- the first index at which a mapped list passes
module _ {A B : Type 0} (p : B → Bool) (f : A → B) where
  index-map : (xs : List A) → position_or_len p (map f xs) ≡ position_or_len (λ x. p (f x)) xs
  index-map [] = refl
  index-map (x ∷ xs) = λ i. cond (not (p (f x))) (1 + index-map xs i) 0

  pub position-map : (xs : List A) → position p (map f xs) ≡ position (λ x. p (f x)) xs
  position-map xs = λ i. cond (nat_lt (index-map xs i) (length-map xs f i)) (Some (index-map xs i)) None
