-- A text has no more tokens than code points.
use Rattle.std.proofs.Common.{◌≡◌, ℕ, zero, suc, ◌+◌, ◌≤◌, Bool, true, false, cond, eqb, ◌&&◌, List, [], ◌∷◌, length, Option, Some, None, refl, arith, length-append}
use Rattle.lol_base.specs.CodePoints.{line_feed, carriage_return}
use Rattle.lol_css.specs.Points.{took, at_most, preprocessed_after, clean_point, clean_points_after, preprocessed}
use Rattle.lol_css.specs.Tokens.{Token, next, somes, with_first, tokens_of, tokens}
use Rattle.lol_css.proofs.Many.{Shrinks}
use Rattle.lol_css.proofs.Streams.{next-shrinks}

took_fewer : {A B : Type 0} (step : List B → Option (A × List B)) → Shrinks step → (n : ℕ) → ((text : List B) → length (at_most n step text).0 + length (at_most n step text).1 ≤ length text) → (o : Option (A × List B)) (text : List B) → step text ≡ o → length (took o (at_most n step) text).0 + length (took o (at_most n step) text).1 ≤ length text
took_fewer step shrinks n h None text e = omega arith
took_fewer step shrinks n h (Some p) text e = omega (arith, h p.1, shrinks.shorter text p.0 p.1 e)

-- each step takes one place at least
fewer : {A B : Type 0} (step : List B → Option (A × List B)) → Shrinks step → (n : ℕ) (text : List B) → length (at_most n step text).0 + length (at_most n step text).1 ≤ length text
unfolding at_most
fewer step shrinks zero text = omega arith
fewer step shrinks (suc n) text = took_fewer step shrinks n (fewer step shrinks n) (step text) text refl

with_first_fewer : (first : Option Token) (all : List Token) → length (with_first first all) ≤ length all + 1
with_first_fewer None all = omega arith
with_first_fewer (Some token) all = omega arith

somes_fewer : (all : List (Option Token)) → length (somes all) ≤ length all
somes_fewer [] = omega arith
somes_fewer (first ∷ all) = omega (arith, with_first_fewer first (somes all), somes_fewer all)

cleaned_fewer : (b : Bool) (c : ℕ) → length (cond b [] (clean_point c ∷ [])) ≤ 1
cleaned_fewer true c = omega arith
cleaned_fewer false c = omega arith

preprocessed_fewer : (before : ℕ) (text : List ℕ) → length (preprocessed_after before text) ≤ length text
unfolding preprocessed_after
preprocessed_fewer before [] = omega arith
preprocessed_fewer before (c ∷ cs) =
    omega (arith, length-append (clean_points_after before c) (preprocessed_after c cs), cleaned_fewer (eqb before carriage_return && eqb c line_feed) c, preprocessed_fewer c cs)

pub tokens_of-fewer : (points : List ℕ) → length (tokens_of points) ≤ length points
unfolding tokens_of
tokens_of-fewer points = omega (arith, somes_fewer (at_most (length points) next points).0, fewer next next-shrinks (length points) points)

pub tokens-fewer : (text : List ℕ) → length (tokens text) ≤ length text
tokens-fewer text = omega (arith, tokens_of-fewer (preprocessed text), preprocessed_fewer 0 text)
