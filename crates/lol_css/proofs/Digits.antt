-- Numbers that are cut off at a limit.
use Rattle.std.proofs.Common.{◌≡◌, ℕ, zero, suc, Bool, true, false, cond, nat_le, length, get_or, drop, Option, Some, None, codes, ◌+◌, ◌-◌, ◌*◌, ◌≤◌, min, List, [], ◌∷◌, map, refl, sym, ap, ◌∙◌, arith, ◌<◌, ◌⊎◌, inl, inr}
use Rattle.std.proofs.lemmas.Bool.{cases_lt, lt-leb}
use Rattle.std.proofs.lemmas.List.{drop_more}
use Rattle.lol_css.specs.Tokens.{Token}
use Rattle.lol_css.specs.declared.syntax.tokens.Sign.{Sign}
use Rattle.lol_css.specs.declared.syntax.tokens.Sign.TheVariants.{Plus, Minus}
use Rattle.lol_css.specs.AnPlusB.{bounded_integer, with_sign, is_n_and_digits, rest_of}
use Rattle.lol_css.specs.Rules.{refused, says}
use Rattle.lol_css.specs.declared.error.SelectorError.TheVariants.{UnexpectedToken}
use Rattle.lol_css.specs.Points.{number_after, decimal}

-- digits after a number make it no smaller
number_after-grows : (n : ℕ) (ds : List ℕ) → n ≤ number_after 10 n ds
number_after-grows n [] = omega arith
number_after-grows n (d ∷ ds) = omega (arith, number_after-grows (n * 10 + d) ds)

capped_of : (limit n : ℕ) (ds : List ℕ) → (n < limit) ⊎ (limit ≤ n) → min (number_after 10 (min n limit) ds) limit ≡ min (number_after 10 n ds) limit
capped_of limit n ds (inl h) = let e : min n limit ≡ n = omega arith in rw e refl
capped_of limit n ds (inr h) =
    let e : min n limit ≡ limit = omega arith in
    rw e (omega (arith, number_after-grows limit ds, number_after-grows n ds))

-- what is cut off early is cut off in the end
pub capped : (limit n : ℕ) (ds : List ℕ) → min (number_after 10 (min n limit) ds) limit ≡ min (number_after 10 n ds) limit
capped limit n ds = capped_of limit n ds (cases_lt n limit)

pub ruleset capped_steps = (capped, capped)

-- one digit more
pub magnitude-next : (limit n i d r : ℕ) (xs : List ℕ) → i < length xs → d ≡ get_or xs i d → r ≡ min (n * 10 + (d - 48)) limit → min (number_after 10 r (map (λ c. c - 48) (drop (i + 1) xs))) limit ≡ min (number_after 10 n (map (λ c. c - 48) (drop i xs))) limit
magnitude-next limit n i d r xs h e q =
    let whole : min (number_after 10 n (map (λ c. c - 48) (drop i xs))) limit ≡ min (number_after 10 (n * 10 + (get_or xs i d - 48)) (map (λ c. c - 48) (drop (i + 1) xs))) limit = ap (λ (l : List ℕ). min (number_after 10 n (map (λ c. c - 48) l)) limit) (drop_more xs i d h) in
    rw q (capped limit (n * 10 + (d - 48)) (map (λ c. c - 48) (drop (i + 1) xs)) ∙ sym (rw (← e) at whole))

-- what is cut off is outside i32
too_large : (sign : Sign) (n : ℕ) (rest : List Token) → 2147483649 ≤ n → bounded_integer (with_sign sign n) rest ≡ refused UnexpectedToken rest
unfolding bounded_integer
too_large Plus n rest h = let e : nat_le n 2147483647 ≡ false = lt-leb n 2147483647 (omega arith) in rw e refl
too_large Minus zero rest h = absurd (omega arith)
too_large Minus (suc m) rest h = let e : nat_le m 2147483647 ≡ false = lt-leb m 2147483647 (omega arith) in rw e refl

fitting_capped_of : (sign : Sign) (n : ℕ) (rest : List Token) → (n < 2147483649) ⊎ (2147483649 ≤ n) → bounded_integer (with_sign sign (min n 2147483649)) rest ≡ bounded_integer (with_sign sign n) rest
fitting_capped_of sign n rest (inl h) = let e : min n 2147483649 ≡ n = omega arith in rw e refl
fitting_capped_of sign n rest (inr h) =
    let e : min n 2147483649 ≡ 2147483649 = omega arith in
    rw e (too_large sign 2147483649 rest (omega arith) ∙ sym (too_large sign n rest h))

pub bounded_integer-capped : (sign : Sign) (n : ℕ) (rest : List Token) → bounded_integer (with_sign sign (min n 2147483649)) rest ≡ bounded_integer (with_sign sign n) rest
bounded_integer-capped sign n rest = fitting_capped_of sign n rest (cases_lt n 2147483649)

some_if : (b : Bool) (m v : ℕ) → Some m ≡ cond {A = Option ℕ} b (Some v) None → (b ≡ true) × (m ≡ v)
some_if true m v e = (refl, cc)
some_if false m v e = absurd cc

-- `n-` and digits
pub rest_of-digits : (name : List ℕ) (tokens : List Token) (m : ℕ) → says (codes "n") name ≡ false → says (codes "n-") name ≡ false → Some m ≡ cond {A = Option ℕ} (is_n_and_digits name) (Some (min (decimal (drop 2 name)) 2147483649)) None → rest_of name tokens ≡ bounded_integer (with_sign Minus m) tokens
unfolding rest_of
rest_of-digits name tokens m a b e =
    let s = some_if (is_n_and_digits name) m (min (decimal (drop 2 name)) 2147483649) e in
    rw (a, b, s.0, s.1) (sym (bounded_integer-capped Minus (decimal (drop 2 name)) tokens))
