-- Laws of sets of ids.
use Rattle.std.specs.Prelude.{◌≡◌, ℕ, Bool, true, false, cond, ◌||◌, List, [], ◌∷◌, Some, None, Option, is_some}
use Rattle.std.proofs.Common.{refl, sym, ap, ◌∙◌, inl, inr}
use Rattle.std.specs.Bool.{Decides}
use Rattle.std.specs.List.{list_any}
use Rattle.std.specs.Ordering.{nat_cmp, eq_by_cmp}
use Rattle.std.specs.Cmp.{IsPartialEquivalence, IsEquivalence, decided, partial_equiv_from_equiv, nat_cmp_total}
use Rattle.std.specs.FinMap as map
use Rattle.std.specs.FinMap.{nat_cmp-IsAntisymmetric, same_map, contains_key-keys, get-insert, get-empty}
use Rattle.std.proofs.lemmas.Slice.Eq.{bytes_eq-Decides}
use Rattle.lol_memory.specs.Ids.{Ids, no_ids, has, with_id, with_ids, union, same_ids, HasRoom}

abbrev marked : Bool → Option (Unit {0})
marked b = cond b (Some tt) None

marks : (x : Option (Unit {0})) → x ≡ marked (is_some x)
marks None = refl
marks (Some u) = refl

Some-or : (b : Bool) (x : Option (Unit {0})) → is_some (cond b (Some tt) x) ≡ (b || is_some x)
Some-or true x = refl
Some-or false x = refl

or_swap : (a b c : Bool) → (a || (b || c)) ≡ (b || (a || c))
or_swap true true c = refl
or_swap true false c = refl
or_swap false b c = refl

or-false : (a : Bool) → a ≡ (a || false)
or-false true = refl
or-false false = refl

-- two sets with the same ids are equal
pub same_set : (s t : Ids) → ((q : ℕ) → has s q ≡ has t q) → s ≡ t
same_set s t is =
    same_map nat_cmp_total nat_cmp-IsAntisymmetric s t (λ q. marks (map.get s q) ∙ (ap marked (is q) ∙ sym (marks (map.get t q))))

pub has-no_ids : (q : ℕ) → has no_ids q ≡ false
has-no_ids q = ap is_some (get-empty nat_cmp q)

pub has-with_id : (s : Ids) (k q : ℕ) → has (with_id s k) q ≡ (eq_by_cmp nat_cmp q k || has s q)
has-with_id s k q = ap is_some (get-insert nat_cmp_total s k tt q) ∙ Some-or _ _

pub has-keys : (s : Ids) (q : ℕ) → has s q ≡ list_any (eq_by_cmp nat_cmp q) (map.keys s)
has-keys s q = contains_key-keys s q

pub has-with_ids : (s : Ids) (ks : List ℕ) (q : ℕ) → has (with_ids s ks) q ≡ (has s q || list_any (eq_by_cmp nat_cmp q) ks)
has-with_ids s [] q = or-false _
has-with_ids s (k ∷ ks) q =
    has-with_id (with_ids s ks) k q ∙ (ap (λ b. eq_by_cmp nat_cmp q k || b) (has-with_ids s ks q) ∙ or_swap (eq_by_cmp nat_cmp q k) (has s q) _)

pub has-union : (s t : Ids) (q : ℕ) → has (union s t) q ≡ (has s q || has t q)
unfolding union
has-union s t q = has-with_ids s (map.keys t) q ∙ ap (λ b. has s q || b) (sym (has-keys t q))

-- a set has room for an id that it has
pub held_has_room : (s : Ids) (q : ℕ) → has s q ≡ true → HasRoom s q
held_has_room s q held = inr (inl (q, held, refl))

pub same_keys : (s t : Ids) → map.keys s ≡ map.keys t → s ≡ t
same_keys s t is = same_set s t (λ q. has-keys s q ∙ (ap (list_any (eq_by_cmp nat_cmp q)) is ∙ sym (has-keys t q)))

pub same_ids-Decides : (s t : Ids) → Decides (same_ids s t) (s ≡ t)
same_ids-Decides s t =
    let lists : Decides (same_ids s t) (map.keys s ≡ map.keys t) = bytes_eq-Decides (map.keys s) (map.keys t) in
    (λ e. same_keys s t (lists.0 e), λ e. lists.1 (ap map.keys e))

pub same_ids_equivalence : IsEquivalence same_ids
same_ids_equivalence = decided same_ids same_ids-Decides

pub same_ids_partial : IsPartialEquivalence same_ids
same_ids_partial = partial_equiv_from_equiv same_ids_equivalence
