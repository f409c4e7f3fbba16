-- A set that takes the ids of another one by one.
use Rattle.std.proofs.Common.{◌≡◌, ℕ, Bool, true, false, ◌||◌, List, [], ◌∷◌, ◌++◌, inl, inr, zero, length, map, get_or, refl, sym, ap, subst, ◌∙◌, arith}
use Rattle.std.specs.Prelude.{Option, Some, None, is_some}
use Rattle.std.proofs.lemmas.Bool.{true≢false}
use Rattle.std.specs.List.{list_any}
use Rattle.std.specs.Ordering.{nat_cmp, eq_by_cmp}
use Rattle.std.specs.Iterator.{YieldsFirst, Yields}
use Rattle.std.proofs.lemmas.List.Folds.{list_any-append}
use Rattle.std.proofs.lemmas.Iterator.Consumers.{YieldsList-from_first, YieldsList-turn, YieldsList-end}
use Rattle.lol_memory.specs.Ids.{Ids, no_ids, has, with_id, with_ids, union, ascending, AllSmall, HasRoomFor}
use Rattle.lol_memory.specs.SetLaws.{same_set, has-no_ids, has-with_id, has-union, has-keys}
use Rattle.lol_memory.specs.AscendingLaws.{has_from_listed}

-- new has the ids of old and those of the list
abbrev pub HasAlso : Ids → List ℕ → Ids → Type 0
HasAlso old ids new = (q : ℕ) → has new q ≡ (has old q || list_any (eq_by_cmp nat_cmp q) ids)

pub also_none : (old : Ids) → HasAlso old [] old
also_none old q = elim (has old q) as (λ b. b ≡ (b || false)) [ true ↦ refl | false ↦ refl ]

pub also_more : (old new : Ids) (ids : List ℕ) (id : ℕ) → HasAlso old ids new → HasAlso old (ids ++ id ∷ []) (with_id new id)
also_more old new ids id also q =
    let one = eq_by_cmp nat_cmp q id in
    let some = list_any (eq_by_cmp nat_cmp q) ids in
    has-with_id new id q ∙ (ap (λ b. one || b) (also q) ∙ (joined (has old q) some one ∙ ap (λ b. has old q || b) (sym (list_any-append (eq_by_cmp nat_cmp q) ids (id ∷ [])))))
  where
    joined : (a b c : Bool) → (c || (a || b)) ≡ (a || (b || (c || false)))
    joined true true true = refl
    joined true true false = refl
    joined true false true = refl
    joined true false false = refl
    joined false true true = refl
    joined false true false = refl
    joined false false true = refl
    joined false false false = refl

pub also_all : (old other new : Ids) → HasAlso old (ascending other) new → new ≡ union old other
also_all old other new also =
    same_set new (union old other) (λ q. also q ∙ (ap (λ b. has old q || b) (sym (has-keys other q)) ∙ sym (has-union old other q)))

map_same : (xs : List ℕ) → map (λ x. x) xs ≡ xs
map_same [] = refl
map_same (x ∷ xs) = ap (λ rest. x ∷ rest) (map_same xs)

-- a loop over the ids of a set, which has yielded some
module _ (other : Ids) (first : List ℕ) (is : first ≡ ascending other) (yielded rest : List ℕ) (by : Yields (YieldsFirst {A = ℕ} (λ rest. rest)) first yielded rest) where
  -- the next is one of them
  pub next_is_held : (r : Option ℕ) (left : List ℕ) (id : ℕ) → r ≡ Some id → YieldsFirst {A = ℕ} (λ rest. rest) rest r left → has other id ≡ true
  next_is_held r left id item step =
      let turn = YieldsList-turn (YieldsList-from_first {A = ℕ} (λ x. x) (λ rest. rest) (ascending other) is) yielded rest by r left id item step in
      has_from_listed other id (length yielded, turn.0, sym turn.1)

  -- at the end it has yielded all
  pub all_yielded : (r : Option ℕ) (left : List ℕ) → r ≡ None → YieldsFirst {A = ℕ} (λ rest. rest) rest r left → yielded ≡ ascending other
  all_yielded r left item step =
      sym (map_same yielded) ∙ (YieldsList-end (YieldsList-from_first {A = ℕ} (λ x. x) (λ rest. rest) (ascending other) is) yielded rest by r left item step).0

-- a set whose ids are yielded first one and then none has that one alone
module _ (other : Ids) (first second left : List ℕ) (is : first ≡ ascending other) (r s : Option ℕ) (id : ℕ) (one : r ≡ Some id) (none : s ≡ None) (step : YieldsFirst {A = ℕ} (λ rest. rest) first r second) (end : YieldsFirst {A = ℕ} (λ rest. rest) second s left) where
  alone : ascending other ≡ id ∷ []
  alone =
      let here : first ≡ id ∷ second = subst (λ r. YieldsFirst {A = ℕ} (λ rest. rest) first r second) one step in
      let after : second ≡ [] = (subst (λ s. YieldsFirst {A = ℕ} (λ rest. rest) second s left) none end).0 in
      sym is ∙ (here ∙ ap (λ ids. id ∷ ids) after)

  pub union_with_one : (old : Ids) → with_id old id ≡ union old other
  unfolding union
  union_with_one old = sym (ap (with_ids old) alone)

  pub one_is_held : has other id ≡ true
  one_is_held = has_from_listed other id (zero, omega (arith, ap length alone), ap (λ ids. get_or ids 0 id) alone)

-- a set of which none is yielded is empty
pub none_held : (s : Ids) (list left : List ℕ) (r : Option ℕ) → list ≡ ascending s → is_some r ≡ false → YieldsFirst {A = ℕ} (λ rest. rest) list r left → s ≡ no_ids
none_held s list left None is none step =
    same_set s no_ids (λ q. has-keys s q ∙ (ap (list_any (eq_by_cmp nat_cmp q)) (sym is ∙ step.0) ∙ sym (has-no_ids q)))
none_held s list left (Some id) is none step = absurd (true≢false none)

pub union_from_none : (s t : Ids) → s ≡ no_ids → t ≡ union s t
union_from_none s t none =
    same_set t (union s t) (λ q. sym (has-union s t q ∙ ap (λ b. b || has t q) (ap (λ s. has s q) none ∙ has-no_ids q)))

-- what an empty set has room for is below 32
pub room_in_none : (s t : Ids) → s ≡ no_ids → HasRoomFor s t → AllSmall t
room_in_none s t none room q held =
    elim (room q held) [
      | inl small ↦ small
      | inr (inl (p, there, _)) ↦ absurd (true≢false (sym there ∙ (ap (λ s. has s p) none ∙ has-no_ids p)))
      | inr (inr (_, (p, there, _))) ↦ absurd (true≢false (sym there ∙ (ap (λ s. has s p) none ∙ has-no_ids p)))
    ]
