-- What the laws of sets of ids stand on.
use Rattle.std.proofs.Common.{◌≡◌, sym, subst, ℕ, Bool, true, false, ◌&&◌, ◌||◌, ◌⊎◌, inl, inr, T, List, [], ◌∷◌, map, refl, ◌∙◌}
use Rattle.std.specs.List.{AllByRecursion, Contains}
use Rattle.std.specs.List.Sorted.{IsStrictlySortedBy, IsStrictlyIncreasing}
use Rattle.std.specs.Ordering.{nat_cmp, is_lt, eq_by_cmp}
use Rattle.std.specs.declared.cmp.Ordering.{Ordering}
use Rattle.std.specs.declared.cmp.Ordering.TheVariants.{Less, Equal, Greater}
use Rattle.std.specs.FinMap as map
use Rattle.std.specs.FinMap.Entries.{is_sorted, below_all}
use Rattle.std.proofs.lemmas.Map.Keys.{IsStrictlyIncreasing-from_sorted}
use Rattle.std.specs.Cmp.{unsigned_tied, unsigned_Decides, nat_cmp_total}
use Rattle.std.proofs.lemmas.Cmp.{eq_by_cmp_equiv}
use Rattle.std.proofs.lemmas.Map.Views.{Contains-from_any, list_any-from_Contains}
use Rattle.lol_memory.specs.Ids.{Ids, has, ascending}
use Rattle.lol_memory.specs.SetLaws.{has-keys}

left_of : (a b : Bool) → T (a && b) → T a
left_of true b both = tt
left_of false b both = both

right_of : (a b : Bool) → T (a && b) → T b
right_of true b both = both
right_of false b both = absurd both

less : (o : Ordering) → T (is_lt o) → o ≡ Less
less Less is = refl
less Equal is = absurd is
less Greater is = absurd is

above : (x : ℕ) (es : List (ℕ × Unit {0})) → T (below_all nat_cmp x es) → AllByRecursion (λ y. nat_cmp x y ≡ Less) (map (λ e. e.0) es)
above x [] below = tt
above x (e ∷ es) below = (less _ (left_of (is_lt (nat_cmp x e.0)) (below_all nat_cmp x es) below), above x es (right_of (is_lt (nat_cmp x e.0)) (below_all nat_cmp x es) below))

keys_rise : (es : List (ℕ × Unit {0})) → T (is_sorted nat_cmp es) → IsStrictlySortedBy nat_cmp (map (λ e. e.0) es)
unfolding IsStrictlySortedBy
keys_rise [] sorted = tt
keys_rise (e ∷ es) sorted =
    (above e.0 es (left_of (below_all nat_cmp e.0 es) (is_sorted nat_cmp es) sorted), keys_rise es (right_of (below_all nat_cmp e.0 es) (is_sorted nat_cmp es) sorted))

pub ascending_rises : (s : Ids) → IsStrictlyIncreasing (ascending s)
ascending_rises s = IsStrictlyIncreasing-from_sorted (ascending s) (keys_rise (map.entries s) (map.entries_sorted s))

-- a test that passes where either of two does
pub either_passes : (a b : Bool) → (a || b) ≡ true → (a ≡ true) ⊎ (b ≡ true)
either_passes true b is = inl refl
either_passes false b is = inr is

pub passes_by : (a b : Bool) → (a ≡ true) ⊎ (b ≡ true) → (a || b) ≡ true
passes_by true b is = refl
passes_by false b is = elim is [ inl first ↦ absurd (subst T (sym first) tt) | inr second ↦ second ]

-- the set has the ids of its list
pub has_from_listed : (s : Ids) (q : ℕ) → Contains (ascending s) q → has s q ≡ true
has_from_listed s q listed = has-keys s q ∙ list_any-from_Contains (eq_by_cmp_equiv nat_cmp_total) q (ascending s) listed

pub listed_from_has : (s : Ids) (q : ℕ) → has s q ≡ true → Contains (ascending s) q
listed_from_has s q held =
    Contains-from_any (λ (x y : ℕ) (e : eq_by_cmp nat_cmp x y ≡ true). (unsigned_Decides x y).0 (sym (unsigned_tied x y) ∙ e)) q (ascending s) (sym (has-keys s q) ∙ held)
