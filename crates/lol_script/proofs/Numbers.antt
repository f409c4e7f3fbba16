-- Numbers in decimal digits.
use Rattle.std.proofs.Common.{◌≡◌, ℕ, ◌+◌, ◌-◌, ◌*◌, ◌<◌, ◌≤◌, Bool, true, false, cond, List, [], ◌∷◌, ◌++◌, length, take, drop, get_or, fold, Some, None, refl, sym, ap, ◌∙◌, arith, ◌&&◌}
use Rattle.std.specs.List.{list_all}
use Rattle.std.specs.Prelude.{nat_le}
use Rattle.std.proofs.lemmas.List.{take-append-drop, take_all, take_more}
use Rattle.std.proofs.lemmas.Bool.Decides.{nat_tests}
use Rattle.lol_script.specs.Script.{number_up_to, number_value, is_digit, some_bytes}

abbrev pub value_from : ℕ → List ℕ → ℕ
value_from n digits = fold (λ n digit. 10 * n + (digit - 48)) n digits

value_grows : (n : ℕ) (digits : List ℕ) → n ≤ value_from n digits
value_grows n [] = omega arith
value_grows n (d ∷ digits) = omega (arith, value_grows (10 * n + (d - 48)) digits)

value_from-append : (n : ℕ) (xs ys : List ℕ) → value_from n (xs ++ ys) ≡ value_from (value_from n xs) ys
value_from-append n [] ys = refl
value_from-append n (x ∷ xs) ys = value_from-append (10 * n + (x - 48)) xs ys

-- a beginning that is too large already
pub number_too_large : (most : ℕ) (digits : List ℕ) (i : ℕ) → most < number_value (take i digits) → number_up_to most digits ≡ None
number_too_large most digits i h =
    let grown : most < number_value digits = omega (arith, h, value_grows (number_value (take i digits)) (drop i digits), sym (value_from-append 0 (take i digits) (drop i digits)), ap number_value (take-append-drop i digits)) in
    too_large (some_bytes digits) (list_all is_digit digits) most (number_value digits) grown
  where
    too_large : (a b : Bool) (m v : ℕ) → m < v → cond (a && (b && nat_le v m)) (Some v) None ≡ None
    too_large true true m v h = grind (arith, nat_tests)
    too_large true false m v h = refl
    too_large false b m v h = refl

-- a digit with which the value is too large
pub number_exceeded : (most : ℕ) (digits : List ℕ) (i v : ℕ) → i < length digits → v ≡ number_value (take i digits) → most < 10 * v + (get_or digits i 0 - 48) → number_up_to most digits ≡ None
number_exceeded most digits i v within is h =
    let more : number_value (take (i + 1) digits) ≡ 10 * v + (get_or digits i 0 - 48) =
    ap number_value (take_more digits i 0 within) ∙ (value_from-append 0 (take i digits) (get_or digits i 0 ∷ []) ∙ ap (λ n. 10 * n + (get_or digits i 0 - 48)) (sym is)) in
    number_too_large most digits (i + 1) (omega (arith, h, more))

-- the whole of the digits
pub number_within : (most : ℕ) (digits : List ℕ) (i v : ℕ) → (length digits ≡ 0 → ⊥) → length digits ≤ i → v ≡ number_value (take i digits) → list_all is_digit (take i digits) ≡ true → v ≤ most → Some v ≡ number_up_to most digits
number_within most [] i v some all is digits small = absurd (some refl)
number_within most (d ∷ ds) i v some all is digits small =
    let whole = take_all i (d ∷ ds) all in
    let value : v ≡ number_value (d ∷ ds) = is ∙ ap number_value whole in
    within (list_all is_digit (d ∷ ds)) most v (number_value (d ∷ ds)) (sym (ap (list_all is_digit) whole) ∙ digits) value small
  where
    within : (b : Bool) (m v w : ℕ) → b ≡ true → v ≡ w → v ≤ m → Some v ≡ cond (b && nat_le w m) (Some w) None
    within b m v w h e small = grind (arith, nat_tests)
