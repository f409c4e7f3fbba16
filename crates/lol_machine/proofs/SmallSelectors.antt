-- Which selectors are small, and which are flat.
use Rattle.lol_machine.proofs.Common.{◌≡◌, ℕ, Bool, true, false, List, None, refl, sym, ap, ◌∙◌, arith, inl, inr, Contains, nat_lt, not, ◌||◌, is_none, nat_tests, and_parts, Among, among_from_contains, has_test_by_type, Path, First, Then, Selectors, beginnings, last_compound, above}
use Rattle.lol_program.specs.ClosedLaws.{among_flat_map}
use Rattle.lol_machine.specs.FreeTags.{AreAmong, AreSmall, SmallPairs, FlatPairs, is_flat, is_small, path_has_type}
use Rattle.lol_machine.proofs.FreeTagLemmas.{all_parts}

neither : (a b : Bool) → (a || b) ≡ false → (a ≡ false) × (b ≡ false)
neither true b h = cc
neither false b h = (refl, h)

not_is : (b : Bool) → not b ≡ true → b ≡ false
not_is true h = cc
not_is false h = refl

-- no beginning of a path without tests by type ends in one
beginnings_untyped : (path node : Path) → path_has_type path ≡ false → Among (beginnings path) node → has_test_by_type (last_compound node) ≡ false
beginnings_untyped (First c) node none (inl is) = ap (λ n. has_test_by_type (last_compound n)) (sym is) ∙ none
beginnings_untyped (First c) node none (inr h) = absurd h
beginnings_untyped (Then front step c) node none (inl is) = ap (λ n. has_test_by_type (last_compound n)) (sym is) ∙ (neither (path_has_type front) (has_test_by_type c) none).1
beginnings_untyped (Then front step c) node none (inr h) = beginnings_untyped front node (neither (path_has_type front) (has_test_by_type c) none).0 h

-- the one beginning of a compound alone stands under nothing
beginnings_alone : (path node : Path) → is_none (above path) ≡ true → Among (beginnings path) node → above node ≡ None
beginnings_alone (First c) node alone (inl is) = ap above (sym is)
beginnings_alone (First c) node alone (inr h) = absurd h
beginnings_alone (Then front step c) node alone h = cc

module _ (s : Selectors) (pairs : List (Path × ℕ)) (among : AreAmong s pairs) where
  -- the pair that brought a node
  brought : (node : Path) → Contains s.nodes node → (pair : Path × ℕ) × Among pairs pair × Among (beginnings pair.0) node
  brought node has = among_flat_map (λ pair. beginnings pair.0) pairs node (among_from_contains _ node (among.nodes node has))

  pub small_if : ((pair : Path × ℕ) → Among pairs pair → is_small pair ≡ true) → AreSmall s
  small_if each = record {
    ids = λ path id has.
        let small = and_parts (nat_lt id 32) (not (path_has_type path)) (each (path, id) (among_from_contains pairs (path, id) (among.pairs path id has))) in
        let below = small.0 in
        grind (arith, nat_tests, below);
    untyped = λ node has.
        let from = brought node has in
        let small = and_parts (nat_lt from.0.1 32) (not (path_has_type from.0.0)) (each from.0 from.1) in
        beginnings_untyped from.0.0 node (not_is (path_has_type from.0.0) small.1) from.2;
  }

pub small_pairs : SmallPairs
small_pairs s pairs among all = small_if s pairs among (all_parts is_small pairs all)

pub flat_pairs : FlatPairs
flat_pairs s pairs among all =
    let each = λ (pair : Path × ℕ) (has : Among pairs pair). and_parts (is_small pair) (is_none (above pair.0)) (all_parts is_flat pairs all pair has) in
    record {
      small = small_if s pairs among (λ pair has. (each pair has).0);
      alone = λ node has. let from = brought s pairs among node has in beginnings_alone from.0.0 node (each from.0 from.1).1 from.2;
    }
