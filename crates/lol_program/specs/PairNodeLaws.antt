-- The nodes of pairs, each once.
use Rattle.std.proofs.Common.{◌≡◌, ℕ, Bool, true, false, ◌||◌, cond, List, [], ◌∷◌, Contains, inl, inr, refl, sym, subst}
use Rattle.std.specs.Prelude.{AllPairs, ◌≢◌}
use Rattle.std.specs.List.{list_any, IsDistinct, AllByRecursion}
use Rattle.std.proofs.lemmas.Map.Made.{AllPairs-from_IsDistinct}
use Rattle.lol_program.specs.Paths.{Path, AreNodes, beginnings, all_beginnings}
use Rattle.lol_program.specs.Same.{same_path}
use Rattle.lol_program.specs.Nodes.{each_once, nodes_of_pairs}
use Rattle.lol_program.specs.Sets.{Joins}
use Rattle.lol_base.specs.MemberLaws.{Among, among_from_contains, contains_from_among, among_front, among_back, among_either}
use Rattle.lol_program.specs.SamePathLaws.{same_path-Decides}

-- a test that finds a path
found : (path : Path) (paths : List Path) → list_any (same_path path) paths ≡ true → Among paths path
found path [] h = cc
found path (p ∷ paths) h = by_test (same_path path p) refl h (found path paths)
  where
    by_test : (b : Bool) → same_path path p ≡ b → (b || list_any (same_path path) paths) ≡ true → (list_any (same_path path) paths ≡ true → Among paths path) → Among (p ∷ paths) path
    by_test true is h more = inl (sym ((same_path-Decides path p).0 is))
    by_test false is h more = inr (more h)

-- a test that finds none
none_passes : {T : Type 0} (test : T → Bool) (xs : List T) → list_any test xs ≡ false → AllByRecursion (λ x. test x ≡ false) xs
none_passes test [] h = tt
none_passes test (x ∷ xs) h = by_test (test x) refl h (none_passes test xs)
  where
    by_test : (b : Bool) → test x ≡ b → (b || list_any test xs) ≡ false → (list_any test xs ≡ false → AllByRecursion (λ x. test x ≡ false) xs) → AllByRecursion (λ x. test x ≡ false) (x ∷ xs)
    by_test true is h more = cc
    by_test false is h more = (is, more h)

-- `each_once` keeps the members
kept : (paths : List Path) (path : Path) → Among paths path → Among (each_once paths) path
kept [] path h = h
kept (p ∷ paths) path h = by_test (list_any (same_path p) (each_once paths)) refl h (kept paths path)
  where
    by_test : (b : Bool) → list_any (same_path p) (each_once paths) ≡ b → Among (p ∷ paths) path → (Among paths path → Among (each_once paths) path) → Among (cond b (each_once paths) (p ∷ each_once paths)) path
    by_test true is (inl same) more = subst (Among (each_once paths)) same (found p (each_once paths) is)
    by_test true is (inr h) more = more h
    by_test false is (inl same) more = inl same
    by_test false is (inr h) more = inr (more h)

-- and adds none
no_other : (paths : List Path) (path : Path) → Among (each_once paths) path → Among paths path
no_other [] path h = h
no_other (p ∷ paths) path h = by_test (list_any (same_path p) (each_once paths)) h (no_other paths path)
  where
    by_test : (b : Bool) → Among (cond b (each_once paths) (p ∷ each_once paths)) path → (Among (each_once paths) path → Among paths path) → Among (p ∷ paths) path
    by_test true h more = inr (more h)
    by_test false (inl same) more = inl same
    by_test false (inr h) more = inr (more h)

distinct : (paths : List Path) → IsDistinct same_path (each_once paths)
unfolding IsDistinct
distinct [] = tt
distinct (p ∷ paths) = by_test (list_any (same_path p) (each_once paths)) refl (distinct paths)
  where
    by_test : (b : Bool) → list_any (same_path p) (each_once paths) ≡ b → IsDistinct same_path (each_once paths) → IsDistinct same_path (cond b (each_once paths) (p ∷ each_once paths))
    by_test true is rest = rest
    by_test false is rest = (none_passes (same_path p) (each_once paths) is, rest)

-- The nodes of pairs are the beginnings of their paths, each once.
pub nodes_of-AreNodes : (pairs : List (Path × ℕ)) → AreNodes pairs (nodes_of_pairs pairs)
nodes_of-AreNodes pairs = record {
  members = λ path. (
    λ h. contains_from_among _ path (no_other (all_beginnings pairs) path (among_from_contains _ path h)),
    λ h. contains_from_among _ path (kept (all_beginnings pairs) path (among_from_contains _ path h)),
  );
  each_once = AllPairs-from_IsDistinct same_path-Decides (nodes_of_pairs pairs) (distinct (all_beginnings pairs));
}

-- a beginning of a path of some pair
begins : (pairs : List (Path × ℕ)) (path : Path) → Among (all_beginnings pairs) path → (pair : Path × ℕ) × Among pairs pair × Among (beginnings pair.0) path
begins [] path h = absurd h
begins (pair ∷ pairs) path h = elim (among_either (beginnings pair.0) (all_beginnings pairs) path h) [
  | inl a ↦ (pair, inl refl, a)
  | inr b ↦ let more = begins pairs path b in (more.0, inr more.1, more.2)
]

begun : (pairs : List (Path × ℕ)) (pair : Path × ℕ) (path : Path) → Among pairs pair → Among (beginnings pair.0) path → Among (all_beginnings pairs) path
begun [] pair path h a = absurd h
begun (p ∷ pairs) pair path (inl is) a = among_front (beginnings p.0) (all_beginnings pairs) path (subst (λ (q : Path × ℕ). Among (beginnings q.0) path) (sym is) a)
begun (p ∷ pairs) pair path (inr h) a = among_back (beginnings p.0) (all_beginnings pairs) path (begun pairs pair path h a)

same_beginnings : (ps qs : List (Path × ℕ)) → ((pair : Path × ℕ) → Contains ps pair → Contains qs pair) → (path : Path) → Contains (all_beginnings ps) path → Contains (all_beginnings qs) path
same_beginnings ps qs to path h =
    let at = begins ps path (among_from_contains _ path h) in
    contains_from_among _ path (begun qs at.0 path (among_from_contains qs at.0 (to at.0 (contains_from_among ps at.0 at.1))) at.2)

-- Nodes that take in what the pairs' paths bring stay their nodes.
pub AreNodes-joined : (pairs more_pairs added : List (Path × ℕ)) (nodes more_nodes : List Path) → AreNodes pairs nodes → Joins pairs more_pairs added → Joins nodes more_nodes (all_beginnings added)
    → AllPairs (λ a b. a ≢ b) more_nodes → AreNodes more_pairs more_nodes
AreNodes-joined pairs more_pairs added nodes more_nodes are p n once = record {
  members = λ path. (
    λ h. elim ((n path).0 h) [
      | inl old ↦ same_beginnings pairs more_pairs (λ pair x. (p pair).1 (inl x)) path ((are.members path).0 old)
      | inr new ↦ same_beginnings added more_pairs (λ pair x. (p pair).1 (inr x)) path new
    ],
    λ h.
        let at = begins more_pairs path (among_from_contains _ path h) in
        elim ((p at.0).0 (contains_from_among more_pairs at.0 at.1)) [
          | inl old ↦ (n path).1 (inl ((are.members path).1 (contains_from_among _ path (begun pairs at.0 path (among_from_contains pairs at.0 old) at.2))))
          | inr new ↦ (n path).1 (inr (contains_from_among _ path (begun added at.0 path (among_from_contains added at.0 new) at.2)))
        ],
  );
  each_once = once;
}
