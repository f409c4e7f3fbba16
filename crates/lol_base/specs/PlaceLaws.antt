-- What stands at a place of a list.
use Rattle.std.proofs.Common.{◌≡◌, ℕ, zero, suc, ◌<◌, List, [], ◌∷◌, length, Some, inl, inr, refl, sym, ap, subst, arith}
use Rattle.std.specs.Prelude.{slice_get}
use Rattle.lol_base.specs.MemberLaws.{Among, Distinct}

-- 1. Parts of equal values

module _ {A : Type 0} where
  pub some_is : {x y : A} → Some x ≡ Some y → x ≡ y
  some_is e = cc

  pub head_is : (x y : A) (xs ys : List A) → x ∷ xs ≡ y ∷ ys → x ≡ y
  head_is x y xs ys e = cc

  pub tail_is : (x y : A) (xs ys : List A) → x ∷ xs ≡ y ∷ ys → xs ≡ ys
  tail_is x y xs ys e = cc

  -- 2. Places

  pub at_among : (xs : List A) (k : ℕ) (x : A) → slice_get xs k ≡ Some x → Among xs x
  at_among [] k x at = cc
  at_among (y ∷ xs) zero x at = inl cc
  at_among (y ∷ xs) (suc k) x at = inr (at_among xs k x at)

  pub same_at : (xs : List A) (k : ℕ) (x y : A) → slice_get xs k ≡ Some x → slice_get xs k ≡ Some y → x ≡ y
  same_at xs k x y a b = cc

  pub one_place : (xs : List A) → Distinct xs → (j k : ℕ) (x : A) → slice_get xs j ≡ Some x → slice_get xs k ≡ Some x → j ≡ k
  one_place [] d j k x a b = cc
  one_place (y ∷ xs) d zero zero x a b = refl
  one_place (y ∷ xs) d zero (suc k) x a b = let is : y ≡ x = cc in absurd (d.0 (subst (Among xs) (sym is) (at_among xs k x b)))
  one_place (y ∷ xs) d (suc j) zero x a b = let is : y ≡ x = cc in absurd (d.0 (subst (Among xs) (sym is) (at_among xs j x a)))
  one_place (y ∷ xs) d (suc j) (suc k) x a b = ap suc (one_place xs d.1 j k x a b)

  pub at_within : (xs : List A) (k : ℕ) (x : A) → slice_get xs k ≡ Some x → k < length xs
  at_within [] k x at = cc
  at_within (y ∷ xs) zero x at = omega arith
  at_within (y ∷ xs) (suc k) x at = omega (arith, at_within xs k x at)

  pub within_at : (xs : List A) (k : ℕ) → k < length xs → (x : A) × (slice_get xs k ≡ Some x)
  within_at [] k h = absurd (omega (arith, h))
  within_at (y ∷ xs) zero h = (y, refl)
  within_at (y ∷ xs) (suc k) h = within_at xs k (omega (arith, h))

  pub among_at : (xs : List A) (x : A) → Among xs x → (k : ℕ) × (slice_get xs k ≡ Some x)
  among_at [] x h = absurd h
  among_at (y ∷ xs) x (inl is) = (0, ap Some is)
  among_at (y ∷ xs) x (inr h) = let rest = among_at xs x h in (suc rest.0, rest.1)
