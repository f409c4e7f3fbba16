-- Sets of ids by their lists.
use Rattle.std.proofs.Common.{◌≡◌, ◌↔◌, ◌⊎◌, ℕ, Bool, true, false, ◌||◌, List, [], ◌∷◌, inl, inr, ⊎_elim, refl, sym, ap, ◌∙◌, true≢false, subst}
use Rattle.std.specs.Prelude.{Contains}
use Rattle.std.specs.List.{list_any}
use Rattle.std.specs.Ordering.{nat_cmp, eq_by_cmp}
use Rattle.std.specs.Cmp.{unsigned_tied, unsigned_Decides}
use Rattle.std.proofs.lemmas.Cmp.{nat_cmp_total, eq_by_cmp_equiv}
use Rattle.std.proofs.lemmas.Bool.Decides.{same_from_decides}
use Rattle.std.proofs.lemmas.Map.Views.{list_any-from_Contains}
use Rattle.lol_memory.specs.Ids.{Ids, has, no_ids, with_id, ascending}
use Rattle.lol_memory.specs.SetLaws.{same_set, has-no_ids, has-with_id, has-with_ids, has-keys}
use Rattle.lol_program.specs.Growth.{IsWith}
use Rattle.lol_base.specs.BoolLaws.{or_parts, or-right_true}
use Rattle.lol_base.specs.MemberLaws.{Among, contains_from_among}
use Rattle.lol_program.specs.IdsForNodes.{set_of}

is_same : (q k : ℕ) → eq_by_cmp nat_cmp q k ≡ true → q ≡ k
is_same q k h = (unsigned_Decides q k).0 (sym (unsigned_tied q k) ∙ h)

itself : (q : ℕ) → eq_by_cmp nat_cmp q q ≡ true
itself q = unsigned_tied q q ∙ (unsigned_Decides q q).1 refl

left : (a b : Bool) → a ≡ true → (a || b) ≡ true
left a b h = ap (λ (c : Bool). c || b) h

found : (q : ℕ) (ks : List ℕ) → list_any (eq_by_cmp nat_cmp q) ks ≡ true → Among ks q
found q [] h = true≢false (sym h)
found q (k ∷ ks) h = ⊎_elim (λ (e : eq_by_cmp nat_cmp q k ≡ true). inl (sym (is_same q k e))) (λ (t : list_any (eq_by_cmp nat_cmp q) ks ≡ true). inr (found q ks t)) (or_parts _ _ h)

-- what the set has is in its list
pub listed_if_held : (s : Ids) (q : ℕ) → has s q ≡ true → Contains (ascending s) q
listed_if_held s q h = contains_from_among (ascending s) q (found q (ascending s) (sym (has-keys s q) ∙ h))

pub held : (s : Ids) (q : ℕ) → Contains (ascending s) q → has s q ≡ true
held s q h = has-keys s q ∙ list_any-from_Contains (eq_by_cmp_equiv nat_cmp_total) q (ascending s) h

none_listed : (ks : List ℕ) → ((q : ℕ) → list_any (eq_by_cmp nat_cmp q) ks ≡ false) → ks ≡ []
none_listed [] h = refl
none_listed (k ∷ ks) h = absurd (true≢false (sym (left _ _ (itself k)) ∙ h k))

-- the empty set's list
pub ascending-no_ids : ascending no_ids ≡ []
ascending-no_ids = none_listed (ascending no_ids) (λ q. sym (has-keys no_ids q) ∙ has-no_ids q)

-- one id more
has_with : (s : Ids) (id x : ℕ) → (has (with_id s id) x ≡ true) ↔ ((has s x ≡ true) ⊎ (id ≡ x))
has_with s id x = (
  λ h. ⊎_elim (λ (e : eq_by_cmp nat_cmp x id ≡ true). inr (sym (is_same x id e))) (λ (t : has s x ≡ true). inl t) (or_parts _ _ (sym (has-with_id s id x) ∙ h)),
  λ h. has-with_id s id x ∙ ⊎_elim (λ (t : has s x ≡ true). or-right_true _ _ t) (λ (e : id ≡ x). left _ _ (subst (λ (y : ℕ). eq_by_cmp nat_cmp x y ≡ true) (sym e) (itself x))) h,
)

pub with_id-IsWith : (s : Ids) (id : ℕ) → IsWith id (ascending s) (ascending (with_id s id))
with_id-IsWith s id x = (
  λ h. ⊎_elim (λ (t : has s x ≡ true). inl (listed_if_held s x t)) (λ (e : id ≡ x). inr e) ((has_with s id x).0 (held (with_id s id) x h)),
  λ h. listed_if_held (with_id s id) x ((has_with s id x).1 (⊎_elim (λ (c : Contains (ascending s) x). inl (held s x c)) (λ (e : id ≡ x). inr e) h)),
)

has-set_of : (ids : List ℕ) (q : ℕ) → has (set_of ids) q ≡ list_any (eq_by_cmp nat_cmp q) ids
has-set_of ids q = has-with_ids no_ids ids q ∙ ap (λ (b : Bool). b || list_any (eq_by_cmp nat_cmp q) ids) (has-no_ids q)

-- the set of a set's list is the set
pub set_of-ascending : (s : Ids) → set_of (ascending s) ≡ s
set_of-ascending s = same_set _ _ (λ q. has-set_of (ascending s) q ∙ sym (has-keys s q))

-- the set of a list has what is in it
pub has_if_listed : (ids : List ℕ) (q : ℕ) → Contains ids q → has (set_of ids) q ≡ true
has_if_listed ids q h = has-set_of ids q ∙ list_any-from_Contains (eq_by_cmp_equiv nat_cmp_total) q ids h

listed_if_has : (ids : List ℕ) (q : ℕ) → has (set_of ids) q ≡ true → Contains ids q
listed_if_has ids q h = contains_from_among ids q (found q ids (sym (has-set_of ids q) ∙ h))

-- a list with one id more
pub set_of-IsWith : (id : ℕ) (old new : List ℕ) → IsWith id old new → set_of new ≡ with_id (set_of old) id
set_of-IsWith id old new is = same_set _ _ (λ q. same_from_decides _ _ (listed_if_has new q, has_if_listed new q) (from q, to q))
  where
    from : (q : ℕ) → has (with_id (set_of old) id) q ≡ true → Contains new q
    from q h = (is q).1 (⊎_elim (λ (t : has (set_of old) q ≡ true). inl (listed_if_has old q t)) (λ (e : id ≡ q). inr e) ((has_with (set_of old) id q).0 h))

    to : (q : ℕ) → Contains new q → has (with_id (set_of old) id) q ≡ true
    to q h = (has_with (set_of old) id q).1 (⊎_elim (λ (c : Contains old q). inl (has_if_listed old q c)) (λ (e : id ≡ q). inr e) ((is q).0 h))

or_twice : (a b : Bool) → (a || (a || b)) ≡ (a || b)
or_twice true b = refl
or_twice false b = refl

-- an id that is added again
pub with_id-again : (s : Ids) (id : ℕ) → with_id (with_id s id) id ≡ with_id s id
with_id-again s id =
    same_set _ _ (λ q. has-with_id (with_id s id) id q ∙ ap (λ (b : Bool). eq_by_cmp nat_cmp q id || b) (has-with_id s id q) ∙ or_twice (eq_by_cmp nat_cmp q id) (has s q) ∙ sym (has-with_id s id q))
