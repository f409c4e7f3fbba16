-- The loops of the tokens.
use Rattle.std.proofs.Common.{◌≡◌, ℕ, zero, suc, ◌-◌, ◌<◌, Bool, true, false, cond, eqb, ◌&&◌, List, [], ◌∷◌, ◌++◌, length, length-append, take, Option, Some, None, refl, sym, ap, ◌∙◌, arith}
use Rattle.std.specs.Str.{byte}
use Rattle.lol_css.specs.Points.{is, first_passes, took, at_most, many, first_that, is_white_space, is_decimal, name, name_point}
use Rattle.lol_css.specs.Tokens.{in_comment}
use Rattle.lol_css.proofs.Many.{Shrinks, many-some, many-none, one_shorter, some_same, name_point-shrinks}

one_shrinks_of : {B : Type 0} (p : B → Bool) (text : List B) (x : B) (rest : List B) → first_that p text ≡ Some (x, rest) → length rest < length text
one_shrinks_of p [] x rest e = absurd cc
one_shrinks_of p (c ∷ cs) x rest e = one_shorter (p c) c x c cs rest e

pub one-shrinks : {B : Type 0} (p : B → Bool) → Shrinks (first_that p)
one-shrinks p = record { shorter = one_shrinks_of p }

in_comment_shorter_of : (b : Bool) (c : ℕ) (cs : List ℕ) (x : ℕ) (rest : List ℕ) → cond {A = Option (ℕ × List ℕ)} b None (Some (c, cs)) ≡ Some (x, rest) → length rest < length (c ∷ cs)
in_comment_shorter_of true c cs x rest e = absurd cc
in_comment_shorter_of false c cs x rest e = let same : cs ≡ rest = ap (λ (p : ℕ × List ℕ). p.1) (some_same (c, cs) (x, rest) e) in rw (← same) (omega arith)

in_comment_shorter : (text : List ℕ) (x : ℕ) (rest : List ℕ) → in_comment text ≡ Some (x, rest) → length rest < length text
unfolding in_comment
in_comment_shorter [] x rest e = absurd cc
in_comment_shorter (c ∷ cs) x rest e = in_comment_shorter_of (eqb c (byte "*") && first_passes (is (byte "/")) cs) c cs x rest e

pub in_comment-shrinks : Shrinks in_comment
in_comment-shrinks = record { shorter = in_comment_shorter }

-- what is left after a round is left after all
rest-goes_on : {A B : Type 0} (step : List B → Option (A × List B)) → Shrinks step → (text : List B) (x : A) (rest : List B) → step text ≡ Some (x, rest) → (many step text).1 ≡ (many step rest).1
rest-goes_on {A} {B} step shrinks text x rest e = ap (λ (p : List A × List B). p.1) (many-some step shrinks text x rest e)

rest-stops : {A B : Type 0} (step : List B → Option (A × List B)) (text : List B) → step text ≡ None → (many step text).1 ≡ text
rest-stops {A} {B} step text e = ap (λ (p : List A × List B). p.1) (many-none step text e)

pub space-goes_on : (text : List ℕ) (x : ℕ) (rest : List ℕ) → first_that is_white_space text ≡ Some (x, rest) → (many (first_that is_white_space) text).1 ≡ (many (first_that is_white_space) rest).1
space-goes_on = rest-goes_on (first_that is_white_space) (one-shrinks is_white_space)

pub space-stops : (text : List ℕ) → first_that is_white_space text ≡ None → (many (first_that is_white_space) text).1 ≡ text
space-stops = rest-stops (first_that is_white_space)

pub comment-goes_on : (text : List ℕ) (x : ℕ) (rest : List ℕ) → in_comment text ≡ Some (x, rest) → (many in_comment text).1 ≡ (many in_comment rest).1
comment-goes_on = rest-goes_on in_comment in_comment-shrinks

pub comment-stops : (text : List ℕ) → in_comment text ≡ None → (many in_comment text).1 ≡ text
comment-stops = rest-stops in_comment

pub decimal-goes_on : (text : List ℕ) (x : ℕ) (rest : List ℕ) → first_that is_decimal text ≡ Some (x, rest) → (many (first_that is_decimal) text).1 ≡ (many (first_that is_decimal) rest).1
decimal-goes_on = rest-goes_on (first_that is_decimal) (one-shrinks is_decimal)

pub decimal-stops : (text : List ℕ) → first_that is_decimal text ≡ None → (many (first_that is_decimal) text).1 ≡ text
decimal-stops = rest-stops (first_that is_decimal)

pub after_name-goes_on : (text : List ℕ) (x : ℕ) (rest : List ℕ) → name_point text ≡ Some (x, rest) → (name text).1 ≡ (name rest).1
after_name-goes_on = rest-goes_on name_point name_point-shrinks

pub after_name-stops : (text : List ℕ) → name_point text ≡ None → (name text).1 ≡ text
after_name-stops = rest-stops name_point

many_one_whole_of : {A : Type 0} (p : A → Bool) (n : ℕ) (b : Bool) (x : A) (xs : List A) → (at_most n (first_that p) xs).0 ++ (at_most n (first_that p) xs).1 ≡ xs → (took (cond {A = Option (A × List A)} b (Some (x, xs)) None) (at_most n (first_that p)) (x ∷ xs)).0 ++ (took (cond {A = Option (A × List A)} b (Some (x, xs)) None) (at_most n (first_that p)) (x ∷ xs)).1 ≡ x ∷ xs
many_one_whole_of {A} p n true x xs h = ap (λ (l : List A). x ∷ l) h
many_one_whole_of p n false x xs h = refl

-- what was taken, and what is left, are the whole
pub many_one_whole : {A : Type 0} (p : A → Bool) (n : ℕ) (text : List A) → (at_most n (first_that p) text).0 ++ (at_most n (first_that p) text).1 ≡ text
unfolding at_most
many_one_whole p zero text = refl
many_one_whole p (suc n) [] = refl
many_one_whole p (suc n) (x ∷ xs) = many_one_whole_of p n (p x) x xs (many_one_whole p n xs)

take_front : {A : Type 0} (xs ys : List A) (n : ℕ) → n ≡ length xs → take n (xs ++ ys) ≡ xs
take_front [] ys n e = rw e refl
take_front {A} (x ∷ xs) ys n e = rw e (ap (λ (l : List A). x ∷ l) (take_front xs ys (length xs) refl))

-- the digits are what stands before what is left
pub digits-before : (text rest : List ℕ) → rest ≡ (many (first_that is_decimal) text).1 → take (length text - length rest) text ≡ (many (first_that is_decimal) text).0
digits-before text rest e =
    let whole = many_one_whole is_decimal (length text) text in
    let n : length text - length rest ≡ length (many (first_that is_decimal) text).0 = omega (arith, ap length whole, length-append (many (first_that is_decimal) text).0 (many (first_that is_decimal) text).1, ap length e) in
    ap (λ (l : List ℕ). take (length text - length rest) l) (sym whole) ∙ take_front (many (first_that is_decimal) text).0 (many (first_that is_decimal) text).1 (length text - length rest) n

pub ruleset digit_steps = (digits-before, digits-before)

pub ruleset space_steps = (space-goes_on, space-stops)

pub ruleset comment_steps = (comment-goes_on, comment-stops)

pub ruleset decimal_steps = (decimal-goes_on, decimal-stops)

pub ruleset name_steps = (after_name-goes_on, after_name-stops)
