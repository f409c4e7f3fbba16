-- Laws of tests that are joined.
use Rattle.std.proofs.Common.{◌≡◌, Bool, true, false, ◌&&◌, ◌||◌, ◌⊎◌, inl, inr, refl, sym}

-- 1. Both

pub and_parts : (a b : Bool) → (a && b) ≡ true → (a ≡ true) × (b ≡ true)
and_parts true true h = (refl, refl)
and_parts true false h = cc
and_parts false b h = cc

pub and_of : (a b : Bool) → a ≡ true → b ≡ true → (a && b) ≡ true
and_of a b p q = λ i. p i && q i

pub and-true : (a : Bool) → (a && true) ≡ a
and-true true = refl
and-true false = refl

pub and-false : (a : Bool) → (a && false) ≡ false
and-false true = refl
and-false false = refl

pub and-left_false : (a b : Bool) → a ≡ false → (a && b) ≡ false
and-left_false a b h = λ i. h i && b

pub and-right_false : (a b : Bool) → b ≡ false → (a && b) ≡ false
and-right_false true b h = h
and-right_false false b h = refl

-- 2. Either

pub or_parts : (a b : Bool) → (a || b) ≡ true → (a ≡ true) ⊎ (b ≡ true)
or_parts true b h = inl refl
or_parts false b h = inr h

pub or_of : (a b : Bool) → (a ≡ true) ⊎ (b ≡ true) → (a || b) ≡ true
or_of true b h = refl
or_of false b (inl h) = cc
or_of false b (inr h) = h

pub or-right_true : (a b : Bool) → b ≡ true → (a || b) ≡ true
or-right_true true b h = refl
or-right_true false b h = h

pub or-false : (a : Bool) → (a || false) ≡ a
or-false true = refl
or-false false = refl

-- 3. Neither true nor false

pub not_true : (a : Bool) → (a ≡ true → ⊥) → a ≡ false
not_true true h = absurd (h refl)
not_true false h = refl

-- 4. The same test

pub same_bool : (a b : Bool) → (a ≡ true → b ≡ true) → (b ≡ true → a ≡ true) → a ≡ b
same_bool true b to from = sym (to refl)
same_bool false true to from = from refl
same_bool false false to from = refl
