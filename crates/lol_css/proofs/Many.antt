-- Taking from the front again and again.
use Rattle.std.proofs.Common.{◌≡◌, ℕ, zero, suc, ◌+◌, ◌-◌, ◌*◌, ◌<◌, ◌≤◌, Bool, true, false, cond, List, [], ◌∷◌, ◌++◌, length, Option, Some, None, refl, sym, ap, ◌∙◌, arith, append_assoc, lit≤, ◌^◌, add-one}
use Rattle.std.proofs.lemmas.List.{append-nil}
use Rattle.std.proofs.Math.Nat.{pow-suc}
use Rattle.std.specs.Char.{is_digit, digit_value}
use Rattle.lol_css.specs.Points.{preprocessed_after, clean_points_after, preprocessed, past, is_white_space, code_point, is_in_name, begins_escape, took, at_most, many, digit, number_after, hexadecimal, name_point, name, escaped_point}

-- each step takes something
pub record Shrinks {A B : Type 0} (step : List B → Option (A × List B)) : Type 0 where
  pub shorter : (text : List B) (x : A) (rest : List B) → step text ≡ Some (x, rest) → length rest < length text

took_same : {A B : Type 0} (o : Option (A × List B)) (f g : List B → List A × List B) (text : List B) → ((x : A) (rest : List B) → o ≡ Some (x, rest) → f rest ≡ g rest) → took o f text ≡ took o g text
took_same None f g text h = refl
took_same {A} {B} (Some p) f g text h = ap (λ (r : List A × List B). (p.0 ∷ r.0, r.1)) (h p.0 p.1 refl)

-- nothing is taken from nothing
at_end : {A B : Type 0} (step : List B → Option (A × List B)) → Shrinks step → (o : Option (A × List B)) (again : List B → List A × List B) (text : List B) → step text ≡ o → length text ≤ 0 → took None again text ≡ took o again text
at_end step shrinks None again text e z = refl
at_end step shrinks (Some p) again text e z = absurd (omega (arith, shrinks.shorter text p.0 p.1 e))

-- beyond the length more rounds change nothing
pub at_most-enough : {A B : Type 0} (step : List B → Option (A × List B)) → Shrinks step → (m n : ℕ) (text : List B) → length text ≤ m → length text ≤ n → at_most m step text ≡ at_most n step text
unfolding at_most
at_most-enough step shrinks zero zero text a b = refl
at_most-enough step shrinks zero (suc n) text a b =
    at_end step shrinks (step text) (at_most n step) text refl (omega arith)
at_most-enough step shrinks (suc m) zero text a b =
    sym (at_end step shrinks (step text) (at_most m step) text refl (omega arith))
at_most-enough step shrinks (suc m) (suc n) text a b =
    took_same (step text) (at_most m step) (at_most n step) text (λ x rest e. at_most-enough step shrinks m n rest (omega (arith, shrinks.shorter text x rest e)) (omega (arith, shrinks.shorter text x rest e)))

many_some_of : {A B : Type 0} (step : List B → Option (A × List B)) → Shrinks step → (text : List B) (x : A) (rest : List B) → step text ≡ Some (x, rest) → (n : ℕ) → n ≡ length text → at_most n step text ≡ took (Some (x, rest)) (many step) text
unfolding at_most
many_some_of step shrinks text x rest e zero l = absurd (omega (arith, shrinks.shorter text x rest e))
many_some_of {A} {B} step shrinks text x rest e (suc n) l =
    rw e (ap (λ (r : List A × List B). (x ∷ r.0, r.1)) (at_most-enough step shrinks n (length rest) rest (omega (arith, shrinks.shorter text x rest e)) (omega arith)))

many_none_of : {A B : Type 0} (step : List B → Option (A × List B)) (text : List B) → step text ≡ None → (n : ℕ) → at_most n step text ≡ took None (many step) text
unfolding at_most
many_none_of step text e zero = refl
many_none_of step text e (suc n) = rw e refl

-- one round, where something is taken and where nothing is
pub many-some : {A B : Type 0} (step : List B → Option (A × List B)) → Shrinks step → (text : List B) (x : A) (rest : List B) → step text ≡ Some (x, rest) → many step text ≡ took (Some (x, rest)) (many step) text
unfolding at_most
many-some step shrinks text x rest e = many_some_of step shrinks text x rest e (length text) refl

pub many-none : {A B : Type 0} (step : List B → Option (A × List B)) (text : List B) → step text ≡ None → many step text ≡ took None (many step) text
many-none step text e = many_none_of step text e (length text)

-- ---- digits

-- the number that at most n further digits write after a number
abbrev pub hexadecimal_in : ℕ → ℕ → List ℕ → ℕ × List ℕ
hexadecimal_in n number text = let digits = at_most n (digit 16) text in (number_after 16 number digits.0, digits.1)

-- ---- what is left is no longer

past_shorter_of : {A : Type 0} (p : A → Bool) (x : A) (xs : List A) (b : Bool) → length (cond b xs (x ∷ xs)) ≤ length (x ∷ xs)
past_shorter_of p x xs true = omega arith
past_shorter_of p x xs false = omega arith

pub past-shorter : {A : Type 0} (p : A → Bool) (text : List A) → length (past p text) ≤ length text
past-shorter p [] = omega arith
past-shorter {A} p (x ∷ xs) = past_shorter_of p x xs (p x)

took_shorter : {A B : Type 0} (step : List B → Option (A × List B)) → Shrinks step → (n : ℕ) → ((text : List B) → length (at_most n step text).1 ≤ length text) → (o : Option (A × List B)) (text : List B) → step text ≡ o → length (took o (at_most n step) text).1 ≤ length text
took_shorter step shrinks n h None text e = omega arith
took_shorter step shrinks n h (Some p) text e = omega (arith, shrinks.shorter text p.0 p.1 e, h p.1)

pub at_most-shorter : {A B : Type 0} (step : List B → Option (A × List B)) → Shrinks step → (n : ℕ) (text : List B) → length (at_most n step text).1 ≤ length text
unfolding at_most
at_most-shorter step shrinks zero text = omega arith
at_most-shorter step shrinks (suc n) text = took_shorter step shrinks n (at_most-shorter step shrinks n) (step text) text refl

pub some_same : {A : Type 0} (x y : A) → Some x ≡ Some y → x ≡ y
some_same x y e = cc

pub one_shorter : {A B : Type 0} (b : Bool) (v x : A) (c : B) (cs rest : List B) → cond {A = Option (A × List B)} b (Some (v, cs)) None ≡ Some (x, rest) → length rest < length (c ∷ cs)
one_shorter {A} {B} true v x c cs rest e = let same : cs ≡ rest = ap (λ (p : A × List B). p.1) (some_same (v, cs) (x, rest) e) in rw (← same) (omega arith)
one_shorter false v x c cs rest e = absurd cc

digit_shorter : (base : ℕ) (text : List ℕ) (x : ℕ) (rest : List ℕ) → digit base text ≡ Some (x, rest) → length rest < length text
digit_shorter base [] x rest e = absurd cc
digit_shorter base (c ∷ cs) x rest e = one_shorter (is_digit c base) (digit_value c) x c cs rest e

pub digit-shrinks : (base : ℕ) → Shrinks (digit base)
digit-shrinks base = record { shorter = digit_shorter base }

pub hexadecimal-shorter : (text : List ℕ) → length (hexadecimal text).1 ≤ length text
unfolding hexadecimal
hexadecimal-shorter text = at_most-shorter (digit 16) (digit-shrinks 16) 6 text

escaped_shorter_of : (c : ℕ) (cs : List ℕ) (b : Bool) → length (cond {A = ℕ × List ℕ} b (code_point (hexadecimal (c ∷ cs)).0, past is_white_space (hexadecimal (c ∷ cs)).1) (c, cs)).1 ≤ length (c ∷ cs)
escaped_shorter_of c cs true = omega (arith, past-shorter is_white_space (hexadecimal (c ∷ cs)).1, hexadecimal-shorter (c ∷ cs))
escaped_shorter_of c cs false = omega arith

pub escaped_point-shorter : (text : List ℕ) → length (escaped_point text).1 ≤ length text
unfolding escaped_point
escaped_point-shorter [] = omega arith
escaped_point-shorter (c ∷ cs) = escaped_shorter_of c cs (is_digit c 16)

name_point_shorter_of : (a b : Bool) (c : ℕ) (cs : List ℕ) (x : ℕ) (rest : List ℕ) → cond {A = Option (ℕ × List ℕ)} a (cond a (Some (c, cs)) None) (cond b (Some (escaped_point cs)) None) ≡ Some (x, rest) → length rest < length (c ∷ cs)
name_point_shorter_of true b c cs x rest e = let same : cs ≡ rest = ap (λ (p : ℕ × List ℕ). p.1) (some_same (c, cs) (x, rest) e) in rw (← same) (omega arith)
name_point_shorter_of false true c cs x rest e =
    let same : escaped_point cs ≡ (x, rest) = some_same (escaped_point cs) (x, rest) e in
    let left : (escaped_point cs).1 ≡ rest = ap (λ (p : ℕ × List ℕ). p.1) same in
    rw (← left) (omega (arith, escaped_point-shorter cs))
name_point_shorter_of false false c cs x rest e = absurd cc

name_point_shorter : (text : List ℕ) (x : ℕ) (rest : List ℕ) → name_point text ≡ Some (x, rest) → length rest < length text
unfolding name_point
name_point_shorter [] x rest e = absurd cc
name_point_shorter (c ∷ cs) x rest e = name_point_shorter_of (is_in_name c) (begins_escape (c ∷ cs)) c cs x rest e

pub name_point-shrinks : Shrinks name_point
name_point-shrinks = record { shorter = name_point_shorter }

-- ---- one round

pub hexadecimal-goes_on : (n number : ℕ) (text : List ℕ) (d : ℕ) (rest : List ℕ) → digit 16 text ≡ Some (d, rest) → hexadecimal_in (suc n) number text ≡ hexadecimal_in n (number * 16 + d) rest
unfolding at_most
hexadecimal-goes_on n number text d rest e = rw e refl

pub hexadecimal-stops : (n number : ℕ) (text : List ℕ) → digit 16 text ≡ None → hexadecimal_in n number text ≡ (number, text)
unfolding at_most
hexadecimal-stops zero number text e = refl
hexadecimal-stops (suc n) number text e = rw e refl

-- the same, counted up to 6
pub hexadecimal-round : (k number : ℕ) (text : List ℕ) (d : ℕ) (rest : List ℕ) → k < 6 → digit 16 text ≡ Some (d, rest) → hexadecimal_in (6 - (k + 1)) (number * 16 + d) rest ≡ hexadecimal_in (6 - k) number text
hexadecimal-round k number text d rest l e =
    let m : 6 - k ≡ suc (6 - (k + 1)) = omega arith in
    rw m (sym (hexadecimal-goes_on (6 - (k + 1)) number text d rest e))

pub hexadecimal-done : (k number : ℕ) (text : List ℕ) → 6 ≤ k → hexadecimal_in (6 - k) number text ≡ (number, text)
unfolding at_most
hexadecimal-done k number text l = let m : 6 - k ≡ 0 = omega arith in rw m refl

pub small_next : (n d k : ℕ) → n < 16 ^ k → d < 16 → n * 16 + d < 16 ^ (k + 1)
small_next n d k a b = rw (add-one, pow-suc) (omega arith)

pub sixteens : (k : ℕ) → k < 6 → 16 * 16 ^ k ≤ 2 ^ 24
sixteens zero l = lit≤ tt
sixteens (suc zero) l = lit≤ tt
sixteens (suc (suc zero)) l = lit≤ tt
sixteens (suc (suc (suc zero))) l = lit≤ tt
sixteens (suc (suc (suc (suc zero)))) l = lit≤ tt
sixteens (suc (suc (suc (suc (suc zero))))) l = lit≤ tt
sixteens (suc (suc (suc (suc (suc (suc k)))))) l = absurd (omega arith)

-- ---- names, one code point after the other

pub name-first : (text : List ℕ) (c : ℕ) (rest : List ℕ) → name_point text ≡ Some (c, rest) → name text ≡ (c ∷ (name rest).0, (name rest).1)
name-first text c rest e = many-some name_point name_point-shrinks text c rest e

pub name-none : (text : List ℕ) → name_point text ≡ None → name text ≡ ([], text)
name-none text e = many-none name_point text e

pub points-first : (text : List ℕ) (c : ℕ) (rest : List ℕ) → name_point text ≡ Some (c, rest) → (name text).0 ≡ c ∷ (name rest).0
points-first text c rest e = ap (λ (p : List ℕ × List ℕ). p.0) (name-first text c rest e)

pub points-none : (text : List ℕ) → name_point text ≡ None → (name text).0 ≡ []
points-none text e = ap (λ (p : List ℕ × List ℕ). p.0) (name-none text e)

pub ruleset first_steps = (points-first, points-none)

pub ruleset hexadecimal_steps = (hexadecimal-goes_on, hexadecimal-stops, sixteens)

-- ---- preprocessing

-- what is cleaned so far, and whatever follows, is the whole
abbrev pub Cleans : List ℕ → ℕ → List ℕ → Type 0
Cleans points before text = (tail : List ℕ) → points ++ preprocessed_after before tail ≡ preprocessed (text ++ tail)

pub Cleans-next : (points : List ℕ) (before : ℕ) (text : List ℕ) (c : ℕ) → Cleans points before text → Cleans (points ++ clean_points_after before c) c (text ++ c ∷ [])
unfolding preprocessed_after
Cleans-next points before text c h tail = append_assoc points (clean_points_after before c) (preprocessed_after c tail) ∙ h (c ∷ tail) ∙ ap preprocessed (sym (append_assoc text (c ∷ []) tail))

pub Cleans-all : (points : List ℕ) (before : ℕ) (text : List ℕ) → Cleans points before text → points ≡ preprocessed text
unfolding preprocessed_after
Cleans-all points before text h = sym (append-nil points) ∙ h [] ∙ ap preprocessed (append-nil text)
