-- Lists as sets that take in others.
use Rattle.std.proofs.Common.{◌↔◌, inl, inr, ⊎_elim, List, [], ◌++◌, sym, subst}
use Rattle.std.specs.Prelude.{Contains, flat_map}
use Rattle.std.proofs.lemmas.Grind.{flat_map-append}
use Rattle.std.proofs.lemmas.List.Elements.{Contains-append_left, Contains-append_right, Contains-append_cases}
use Rattle.lol_program.specs.Sets.{Joins, SameMembers, IsBetween}
use Rattle.lol_base.specs.MemberLaws.{among_from_contains}

module _ {T : Type 0} where
  pub none_in : (x : T) → Contains [] x → ⊥
  none_in x h = among_from_contains [] x h

  -- a set takes in nothing
  pub Joins-none : (old new : List T) → SameMembers old new → Joins old new []
  Joins-none old new s x = (λ h. inl ((s x).0 h), λ h. ⊎_elim (λ (a : Contains old x). (s x).1 a) (λ (n : Contains [] x). absurd (none_in x n)) h)

  pub SameMembers-from : (old new : List T) → Joins old new [] → SameMembers old new
  SameMembers-from old new j x = (λ h. ⊎_elim (λ (a : Contains old x). a) (λ (n : Contains [] x). absurd (none_in x n)) ((j x).0 h), λ h. (j x).1 (inl h))

  pub SameMembers-both : (a b c : List T) → SameMembers a b → SameMembers b c → SameMembers a c
  SameMembers-both a b c s t x = (λ h. (s x).0 ((t x).0 h), λ h. (t x).1 ((s x).1 h))

  -- one list after another
  pub Joins-both : (old mid new xs ys : List T) → Joins old mid xs → Joins mid new ys → Joins old new (xs ++ ys)
  Joins-both old mid new xs ys j k x = (
    λ h. ⊎_elim
        (λ (m : Contains mid x). ⊎_elim (λ (a : Contains old x). inl a) (λ (a : Contains xs x). inr (Contains-append_left xs ys x a)) ((j x).0 m))
        (λ (a : Contains ys x). inr (Contains-append_right xs ys x a)) ((k x).0 h),
    λ h. ⊎_elim
        (λ (a : Contains old x). (k x).1 (inl ((j x).1 (inl a))))
        (λ (b : Contains (xs ++ ys) x). ⊎_elim (λ (a : Contains xs x). (k x).1 (inl ((j x).1 (inr a)))) (λ (a : Contains ys x). (k x).1 (inr a)) (Contains-append_cases xs ys x b)) h,
  )

  pub Joins-same : (old new xs ys : List T) → ((x : T) → Contains xs x ↔ Contains ys x) → Joins old new xs → Joins old new ys
  Joins-same old new xs ys s j x = (
    λ h. ⊎_elim (λ (a : Contains old x). inl a) (λ (a : Contains xs x). inr ((s x).0 a)) ((j x).0 h),
    λ h. (j x).1 (⊎_elim (λ (a : Contains old x). inl a) (λ (a : Contains ys x). inr ((s x).1 a)) h),
  )

  pub Joins-after_same : (old mid new xs : List T) → SameMembers old mid → Joins mid new xs → Joins old new xs
  Joins-after_same old mid new xs s j x = (
    λ h. ⊎_elim (λ (a : Contains mid x). inl ((s x).0 a)) (λ (a : Contains xs x). inr a) ((j x).0 h),
    λ h. (j x).1 (⊎_elim (λ (a : Contains old x). inl ((s x).1 a)) (λ (a : Contains xs x). inr a) h),
  )

  -- a list of which all is taken in already, or some
  pub Joins-again : (old mid new xs : List T) → Joins old mid xs → Joins mid new xs → Joins old new xs
  Joins-again old mid new xs j k =
      Joins-same old new (xs ++ xs) xs (λ x. (λ h. ⊎_elim (λ (a : Contains xs x). a) (λ (a : Contains xs x). a) (Contains-append_cases xs xs x h), λ h. Contains-append_left xs xs x h)) (Joins-both old mid new xs xs j k)

  pub IsBetween-joined : (old new xs : List T) → Joins old new xs → IsBetween old new xs
  IsBetween-joined old new xs j = record { kept = λ x h. (j x).1 (inl h); only = λ x h. (j x).0 h }

  pub IsBetween-more : (old new xs ys : List T) → ((x : T) → Contains xs x → Contains ys x) → IsBetween old new xs → IsBetween old new ys
  IsBetween-more old new xs ys f b = record { kept = b.kept; only = λ x h. ⊎_elim (λ (a : Contains old x). inl a) (λ (a : Contains xs x). inr (f x a)) (b.only x h) }

  pub IsBetween-both : (old mid new xs : List T) → IsBetween old mid xs → IsBetween mid new xs → IsBetween old new xs
  IsBetween-both old mid new xs b c = record {
    kept = λ x h. c.kept x (b.kept x h);
    only = λ x h. ⊎_elim (λ (m : Contains mid x). b.only x m) (λ (a : Contains xs x). inr a) (c.only x h);
  }

-- what a part of a list gives, the list gives
pub flat_map-front : {A B : Type 0} (f : A → List B) (xs ys : List A) (b : B) → Contains (flat_map f xs) b → Contains (flat_map f (xs ++ ys)) b
flat_map-front f xs ys b h = subst (λ (l : List _). Contains l b) (sym (flat_map-append f xs ys)) (Contains-append_left (flat_map f xs) (flat_map f ys) b h)
