-- The addresses that ranges hold, counted.
use Rattle.lol_machine.proofs.Common.{◌≡◌, ℕ, Bool, true, List, length, sym, ap, ◌∙◌, ◌&&◌, arith, count_by, Range, list_any, range_with_len, Element, Path, Selectors, last_compound, Among, same_count, among_from_contains, contains_from_among, distinct_from_pairs, name_tries, attribute_tries, and_parts, same_bool, at_among, at_within, is_open, by_names, IsAt, IsProgramOf, AreClosed, all_addresses, HoldOnce, instruction_value, is_open_at, is_tried, is_tried_open}
use Rattle.lol_base.specs.MemberLaws.{same_passing, any_among, among_any}
use Rattle.lol_base.specs.CountLaws.{is_at, is_at_of, is_at_is, distinct_range, range_among, count_by_places, count_same, count_all}
use Rattle.lol_program.specs.Programs.{Program}
use Rattle.lol_machine.proofs.Held.{instruction_at, address_of_node}

module _ (s : Selectors) (paths : List Path) (p : Program) (closed : AreClosed s) (program : IsProgramOf s paths p) where
  pub nodes_counted : (q : Path → Bool) → count_by q s.nodes ≡ count_by q paths
  nodes_counted q =
      same_count q s.nodes paths (distinct_from_pairs s.nodes closed.once) (distinct_from_pairs paths program.once)
      (λ path h. among_from_contains paths path ((program.same path).1 (contains_from_among s.nodes path h)))
      (λ path h. among_from_contains s.nodes path ((program.same path).0 (contains_from_among paths path h)))

  -- of ranges that hold the address of each path that passes
  module _ (ranges : List (Range ℕ)) (tried : Path → Bool) (held : HoldOnce paths ranges (λ path. tried path ≡ true)) where
    abbrev all : List ℕ
    all = all_addresses ranges

    pub path_held : (address : ℕ) → Among all address → (path : Path) × IsAt paths address path × (tried path ≡ true)
    path_held address a = (held.members address).0 (contains_from_among all address a)

    pub held_at : (address : ℕ) (path : Path) → IsAt paths address path → tried path ≡ true → Among all address
    held_at address path at fits = among_from_contains all address ((held.members address).1 (path, at, fits))

    -- a test that no others pass
    addresses_counted : (q : Path → Bool) → ((path : Path) → q path ≡ true → tried path ≡ true) → count_by q s.nodes ≡ count_by (is_at q paths) all
    addresses_counted q left =
        nodes_counted q
        ∙ (count_by_places q paths
        ∙ same_passing (is_at q paths) (range_with_len 0 (length paths)) all (distinct_range 0 (length paths)) (distinct_from_pairs all held.once)
        (λ address fits h. let at = is_at_of q paths address fits in held_at address at.0 at.1 (left at.0 at.2))
        (λ address fits h. let at = is_at_of q paths address fits in range_among 0 (length paths) address (omega arith) (omega (arith, at_within paths address at.0 at.1))))

    pub addresses_are_nodes : length all ≡ count_by tried s.nodes
    addresses_are_nodes =
        sym (count_all (is_at tried paths) all (λ address a. let x = path_held address a in is_at_is tried paths address x.0 x.1 ∙ x.2))
        ∙ sym (addresses_counted tried (λ path h. h))

    module _ (e : Element) where
      abbrev tried_open : Path → Bool
      tried_open path = tried path && is_open (by_names (last_compound path) e)

      open_at : (address : ℕ) (path : Path) → IsAt paths address path → tried path ≡ true → is_open_at p e address ≡ tried_open path
      open_at address path at fits =
          let i = instruction_at s paths p program address path at in
          let value : is_open_at p e address ≡ is_open (i.0.value e) = ap (λ o. is_open (instruction_value e o)) i.1 in
          value ∙ (ap is_open ((program.each address path i.0 at i.1).means e).0 ∙ sym (ap (λ b. b && is_open (by_names (last_compound path) e)) fits))

      tried_of_open : (path : Path) → tried_open path ≡ true → tried path ≡ true
      tried_of_open path h = (and_parts (tried path) _ h).0

      attributes_counted : count_by (is_open_at p e) all ≡ count_by tried_open s.nodes
      attributes_counted =
          count_same (is_open_at p e) (is_at tried_open paths) all
          (λ address a. let x = path_held address a in open_at address x.0 x.1 x.2 ∙ sym (is_at_is tried_open paths address x.0 x.1))
          ∙ sym (addresses_counted tried_open tried_of_open)

      asked : list_any (is_open_at p e) all ≡ list_any tried_open s.nodes
      asked = same_bool _ _
          (λ h.
          let address = among_any (is_open_at p e) all h in
          let x = path_held address.0 address.1 in
          any_among tried_open s.nodes x.0 (among_from_contains s.nodes x.0 ((program.same x.0).0 (contains_from_among paths x.0 (at_among paths address.0 x.0 x.1))))
          (sym (open_at address.0 x.0 x.1 x.2) ∙ address.2))
          (λ h.
          let node = among_any tried_open s.nodes h in
          let address = address_of_node s paths p program node.0 (contains_from_among s.nodes node.0 node.1) in
          let fits = tried_of_open node.0 node.2 in
          any_among (is_open_at p e) all address.0 (held_at address.0 node.0 address.1 fits) (open_at address.0 node.0 address.1 fits ∙ node.2))

-- the paths that are tried for an element
abbrev pub Tried : Selectors → Element → List Element → Path → Type 0
Tried s e outer path = is_tried s e outer path ≡ true

-- The addresses are as many as are tried by names, the open ones as many as by attributes.
pub record TriesAreExact (s : Selectors) (p : Program) (ranges : List (Range ℕ)) (e : Element) (outer : List Element) : Type 0 where
  pub names : length (all_addresses ranges) ≡ name_tries s e outer
  pub attributes : count_by (is_open_at p e) (all_addresses ranges) ≡ attribute_tries s e outer
  pub asks : list_any (is_open_at p e) (all_addresses ranges) ≡ list_any (is_tried_open s e outer) s.nodes

pub addresses_count_tries : (s : Selectors) (paths : List Path) (p : Program) (ranges : List (Range ℕ)) (e : Element) (outer : List Element)
    → AreClosed s → IsProgramOf s paths p → HoldOnce paths ranges (Tried s e outer) → TriesAreExact s p ranges e outer
addresses_count_tries s paths p ranges e outer closed program held = record {
  names = addresses_are_nodes s paths p closed program ranges (is_tried s e outer) held;
  attributes = attributes_counted s paths p closed program ranges (is_tried s e outer) held e;
  asks = asked s paths p closed program ranges (is_tried s e outer) held e;
}
