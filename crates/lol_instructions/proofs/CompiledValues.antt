-- Values by names and truths of tests that are looked at one after another.
use Rattle.std.proofs.Common.{◌≡◌, ℕ, zero, suc, ◌+◌, ◌-◌, ◌<◌, ◌≤◌, Bool, true, false, ◌&&◌, ◌||◌, List, [], ◌∷◌, ◌++◌, drop, get_or, length, arith, refl, sym, ap, ◌∙◌}
use Rattle.std.specs.List.{list_any, list_all}
use Rattle.lol_instructions.specs.Compounds.{both, either}
use Rattle.lol_instructions.specs.Compiled.{all_values, some_values}
use Rattle.lol_instructions.specs.declared.name_value.NameValue.{NameValue}
use Rattle.lol_instructions.specs.declared.name_value.NameValue.TheVariants.{True, False, Open}

-- 1. What is left from one on

pub drop_here : {A : Type 0} (xs : List A) (i : ℕ) (x : A) → i < length xs → x ≡ get_or xs i x → drop i xs ≡ x ∷ drop (i + 1) xs
drop_here [] i x within at = absurd (omega (arith, within))
drop_here (y ∷ xs) zero x within at = ap (λ z. z ∷ xs) (sym at)
drop_here (y ∷ xs) (suc i) x within at =
    let e : i + 1 ≡ suc i = omega arith in
    let e' : suc i + 1 ≡ suc (suc i) = omega arith in
    drop_here xs i x (omega (arith, within)) at ∙ ap (λ n. x ∷ drop n xs) e ∙ ap (λ n. x ∷ drop n (y ∷ xs)) (sym e')

pub drop_before : {A : Type 0} (xs : List A) (i : ℕ) (x : A) → 0 < i → i ≤ length xs → x ≡ get_or xs (i - 1) x → drop (i - 1) xs ≡ x ∷ drop i xs
drop_before xs i x some within at = drop_here xs (i - 1) x (omega (arith, some, within)) at ∙ ap (λ n. x ∷ drop n xs) (omega (arith, some))

pub drop_all : {A : Type 0} (xs : List A) (i : ℕ) → length xs ≤ i → drop i xs ≡ []
drop_all [] zero h = refl
drop_all [] (suc i) h = refl
drop_all (x ∷ xs) zero h = absurd (omega (arith, h))
drop_all (x ∷ xs) (suc i) h = drop_all xs i (omega (arith, h))

pub drop_none : {A : Type 0} (xs : List A) (i : ℕ) → i ≤ 0 → drop i xs ≡ xs
drop_none xs i h = let none : i ≡ 0 = omega (arith, h) in ap (λ n. drop n xs) none

-- 2. Values

pub both_false : (v : NameValue) → both v False ≡ False
both_false True = refl
both_false False = refl
both_false Open = refl

either_true : (v : NameValue) → either v True ≡ True
either_true True = refl
either_true False = refl
either_true Open = refl

pub either_false : (v : NameValue) → either v False ≡ v
either_false True = refl
either_false False = refl
either_false Open = refl

-- what is open stays open where no other part decides
either_open : (v w : NameValue) → either v Open ≡ Open → either v (either Open w) ≡ either Open w
either_open True w h = cc
either_open False w h = refl
either_open Open True h = refl
either_open Open False h = refl
either_open Open Open h = refl

module _ {A : Type 0} (value : A → NameValue) where
  -- where the tests from one on fail, all do
  all_false : (xs : List A) (i : ℕ) → all_values value (drop i xs) ≡ False → all_values value xs ≡ False
  all_false xs zero h = h
  all_false [] (suc i) h = h
  all_false (x ∷ xs) (suc i) h = ap (both (value x)) (all_false xs i h) ∙ both_false (value x)

  all_from : (xs : List A) (i : ℕ) (x : A) → 0 < i → i ≤ length xs → x ≡ get_or xs (i - 1) x → all_values value (drop (i - 1) xs) ≡ both (value x) (all_values value (drop i xs))
  all_from xs i x some within at = ap (all_values value) (drop_before xs i x some within at)

  pub all_true : (xs : List A) (i : ℕ) (x : A) (v : NameValue) → 0 < i → i ≤ length xs → x ≡ get_or xs (i - 1) x → value x ≡ True → v ≡ all_values value (drop i xs) → v ≡ all_values value (drop (i - 1) xs)
  all_true xs i x v some within at here h = h ∙ sym (all_from xs i x some within at ∙ ap (λ w. both w (all_values value (drop i xs))) here)

  pub all_fail : (xs : List A) (i : ℕ) (x : A) → 0 < i → i ≤ length xs → x ≡ get_or xs (i - 1) x → value x ≡ False → False ≡ all_values value xs
  all_fail xs i x some within at here = sym (all_false xs (i - 1) (all_from xs i x some within at ∙ ap (λ w. both w (all_values value (drop i xs))) here))

  pub all_open : (xs : List A) (i : ℕ) (x : A) (v : NameValue) → 0 < i → i ≤ length xs → x ≡ get_or xs (i - 1) x → value x ≡ Open → v ≡ all_values value (drop i xs) → both Open v ≡ Open → Open ≡ all_values value (drop (i - 1) xs)
  all_open xs i x v some within at here h none_fails =
      sym (all_from xs i x some within at ∙ ap (λ w. both w (all_values value (drop i xs))) here ∙ ap (both Open) (sym h) ∙ none_fails)

  -- one test more, which holds or fails
  pub all_if_last : (xs : List A) (x : A) → value x ≡ True → all_values value (xs ++ x ∷ []) ≡ all_values value xs
  all_if_last [] x here = ap (λ w. both w True) here
  all_if_last (y ∷ xs) x here = ap (both (value y)) (all_if_last xs x here)

  pub none_if_last : (xs : List A) (x : A) → value x ≡ False → all_values value (xs ++ x ∷ []) ≡ False
  none_if_last [] x here = ap (λ w. both w True) here
  none_if_last (y ∷ xs) x here = ap (both (value y)) (none_if_last xs x here) ∙ both_false (value y)

  -- the compounds from one on, in what is known so far
  some_from : (xs : List A) (i : ℕ) (x : A) → i < length xs → x ≡ get_or xs i x → some_values value (drop i xs) ≡ either (value x) (some_values value (drop (i + 1) xs))
  some_from xs i x within at = ap (some_values value) (drop_here xs i x within at)

  pub some_true : (xs : List A) (i : ℕ) (x : A) (v : NameValue) → i < length xs → x ≡ get_or xs i x → value x ≡ True → some_values value xs ≡ either v (some_values value (drop i xs)) → some_values value xs ≡ True
  some_true xs i x v within at here h = h ∙ ap (either v) (some_from xs i x within at ∙ ap (λ w. either w (some_values value (drop (i + 1) xs))) here) ∙ either_true v

  pub some_false : (xs : List A) (i : ℕ) (x : A) (v : NameValue) → i < length xs → x ≡ get_or xs i x → value x ≡ False → some_values value xs ≡ either v (some_values value (drop i xs))
      → some_values value xs ≡ either v (some_values value (drop (i + 1) xs))
  some_false xs i x v within at here h = h ∙ ap (either v) (some_from xs i x within at ∙ ap (λ w. either w (some_values value (drop (i + 1) xs))) here)

  pub some_open : (xs : List A) (i : ℕ) (x : A) (v : NameValue) → i < length xs → x ≡ get_or xs i x → value x ≡ Open → either v Open ≡ Open → some_values value xs ≡ either v (some_values value (drop i xs))
      → some_values value xs ≡ either Open (some_values value (drop (i + 1) xs))
  some_open xs i x v within at here undecided h =
      h ∙ ap (either v) (some_from xs i x within at ∙ ap (λ w. either w (some_values value (drop (i + 1) xs))) here) ∙ either_open v (some_values value (drop (i + 1) xs)) undecided

  pub some_all : (xs : List A) (i : ℕ) (v : NameValue) → length xs ≤ i → some_values value xs ≡ either v (some_values value (drop i xs)) → some_values value xs ≡ v
  some_all xs i v h known = known ∙ ap (λ l. either v (some_values value l)) (drop_all xs i h) ∙ either_false v

-- 3. Truths

pub holds_from : {A : Type 0} (p : A → Bool) (xs : List A) (i : ℕ) (x : A) → 0 < i → i ≤ length xs → x ≡ get_or xs (i - 1) x → p x ≡ true → list_all p (drop i xs) ≡ true → list_all p (drop (i - 1) xs) ≡ true
holds_from p xs i x some within at here others = ap (list_all p) (drop_before xs i x some within at) ∙ (λ j. here j && others j)

pub none_yet : {A : Type 0} (p : A → Bool) (xs : List A) (i : ℕ) (x : A) → i < length xs → x ≡ get_or xs i x → p x ≡ false → list_any p xs ≡ list_any p (drop i xs) → list_any p xs ≡ list_any p (drop (i + 1) xs)
none_yet p xs i x within at here h = h ∙ ap (list_any p) (drop_here xs i x within at) ∙ ap (λ (b : Bool). b || list_any p (drop (i + 1) xs)) here
