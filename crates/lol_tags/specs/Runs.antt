-- A machine that reads bytes one by one, and may give something at each.
use Rattle.std.specs.Prelude.{◌≡◌, ℕ, List, [], ◌∷◌, ◌++◌, Option, Some, None, refl}
use Rattle.std.proofs.Common.{◌∙◌, ap}

abbrev pub with_some : {X : Type 0} → Option X → List X → List X
with_some None xs = xs
with_some (Some x) xs = x ∷ xs

-- its state after some bytes
abbrev pub run : {S : Type 0} → (S → ℕ → S) → S → List ℕ → S
run step s [] = s
run step s (b ∷ bytes) = run step (step s b) bytes

-- what it gives at them
abbrev pub given : {S X : Type 0} → (S → ℕ → S) → (S → ℕ → Option X) → S → List ℕ → List X
given step gives s [] = []
given step gives s (b ∷ bytes) = with_some (gives s b) (given step gives (step s b) bytes)

-- Both go on from where they were.
pub run-append : {S : Type 0} (step : S → ℕ → S) (s : S) (xs ys : List ℕ) → run step s (xs ++ ys) ≡ run step (run step s xs) ys
run-append step s [] ys = refl
run-append step s (x ∷ xs) ys = run-append step (step s x) xs ys

with_some-append : {X : Type 0} (x : Option X) (xs ys : List X) → with_some x (xs ++ ys) ≡ with_some x xs ++ ys
with_some-append None xs ys = refl
with_some-append (Some x) xs ys = refl

pub given-append : {S X : Type 0} (step : S → ℕ → S) (gives : S → ℕ → Option X) (s : S) (xs ys : List ℕ)
    → given step gives s (xs ++ ys) ≡ given step gives s xs ++ given step gives (run step s xs) ys
given-append step gives s [] ys = refl
given-append step gives s (x ∷ xs) ys =
    ap (with_some (gives s x)) (given-append step gives (step s x) xs ys)
    ∙ with_some-append (gives s x) (given step gives (step s x) xs) (given step gives (run step (step s x) xs) ys)
