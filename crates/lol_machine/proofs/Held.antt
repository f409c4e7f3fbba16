-- The addresses that ranges hold.
use Rattle.lol_machine.proofs.Common.{◌≡◌, ℕ, ◌-◌, ◌<◌, ◌≤◌, Bool, true, false, true≢false, List, [], ◌∷◌, ◌++◌, length, Option, Some, None, ◌⊎◌, ◌↔◌, inl, inr, refl, sym, ap, ◌∙◌, subst, arith, Contains, ◌==◌, if◌then◌else◌, Range, map-append, append-nil, Decides-eqb, Element, Path, First, Then, Selectors, last_compound, contains_from_among, Among, Distinct, among_front, among_back, among_either, among_from_contains, distinct_from_pairs, matches, left_matches, parent_passes, some_ancestor_passes, and_parts, and_of, or_parts, or_of, some_is, at_among, same_at, one_place, at_within, within_at, IsWithin, IsAt, HoldsAddresses, IsRangeOf, IsProgramOf, AreClosed, above, addresses, all_addresses, OpenItem, ranges_to_run, IsReached, HasRanges, IsItem, AreItems, Matches, HoldOnce, LeftMatches, active_of, last_jumps, ranges_of_active, jumps_of, hereditary_jumps_of, ProgramsHaveEachNode, RangesHoldLeftMatches, among_map, map_among}
use Rattle.lol_base.specs.CountLaws.{among_range, range_among, distinct_range}
use Rattle.lol_base.specs.PlaceLaws.{among_at}
use Rattle.lol_base.specs.MemberLaws.{same_length, distinct_append, among_flat_map, flat_map_among, distinct_flat_map, any_among, among_any}
use Rattle.std.proofs.lemmas.Grind.{flat_map-append}
use Rattle.lol_css.specs.declared.selector.Combinator.{Combinator}
use Rattle.lol_css.specs.declared.selector.Combinator.TheVariants.{Child, Descendant}
use Rattle.lol_program.specs.StepLaws.{one_front, one_step}
use Rattle.lol_program.specs.Programs.{Instruction, Program}
use Rattle.lol_stack.specs.Active.{activated, is_range_active, is_same_range}
use Rattle.lol_program.specs.NodeOnceLaws.{AllPairs-from_Distinct}

-- 1. Ranges and the addresses in them

pub within_addresses : (r : Range ℕ) (address : ℕ) → Among (addresses r) address → IsWithin address r
within_addresses r address h = let at = among_range r.start (r.end - r.start) address h in (at.0, omega (arith, at.0, at.1))

pub addresses_within : (r : Range ℕ) (address : ℕ) → IsWithin address r → Among (addresses r) address
addresses_within r address h = range_among r.start (r.end - r.start) address h.0 (omega (arith, h.0, h.1))

not_child : Child ≡ Descendant → ⊥
not_child h = cc

-- 2. What a program says of its addresses

module _ (s : Selectors) (paths : List Path) (p : Program) (program : IsProgramOf s paths p) where
  pub paths_once : Distinct paths
  paths_once = distinct_from_pairs paths program.once

  pub instruction_at : (address : ℕ) (path : Path) → IsAt paths address path → (i : Instruction) × IsAt p.instructions address i
  instruction_at address path at = within_at p.instructions address (omega (arith, at_within paths address path at, program.count))

  pub path_at : (address : ℕ) (i : Instruction) → IsAt p.instructions address i → (path : Path) × IsAt paths address path
  path_at address i at = within_at paths address (omega (arith, at_within p.instructions address i at, program.count))

  pub address_of_node : (path : Path) → Contains s.nodes path → (address : ℕ) × IsAt paths address path
  address_of_node path h = among_at paths path (among_from_contains paths path ((program.same path).1 h))

  module _ (closed : AreClosed s) where
    pub front_at : (address : ℕ) (path front : Path) (step : Combinator) → IsAt paths address path → above path ≡ Some (front, step) → (k : ℕ) × IsAt paths k front
    front_at address (First c) front step at is = cc
    front_at address (Then other step' c) front step at is =
        let node : Contains s.nodes (Then other step' c) = (program.same (Then other step' c)).0 (contains_from_among paths (Then other step' c) (at_among paths address (Then other step' c) at)) in
        subst (λ f. (k : ℕ) × IsAt paths k f) (one_front other front step' step is) (address_of_node other (closed.fronts other step' c node))

    -- 3. Ranges that instructions give hold their addresses once

    module _ (which : Instruction → Option (Range ℕ)) (step : Combinator)
        (has : (address : ℕ) (path : Path) (i : Instruction) → IsAt paths address path → IsAt p.instructions address i → IsRangeOf paths (which i) (Some (path, step))) where
      pub range_of_reached : (address : ℕ) (path : Path) (i : Instruction) (r : Range ℕ) → IsAt paths address path → IsAt p.instructions address i → which i ≡ Some r → HoldsAddresses paths r (Some (path, step)) × (r.start < r.end)
      range_of_reached address path i r at at' is = subst (λ o. IsRangeOf paths o (Some (path, step))) is (has address path i at at')

      -- a range belongs to one address
      pub one_owner : (j k : ℕ) (a b : Path) (x y : Instruction) (r r' : Range ℕ) (address : ℕ) → IsAt paths j a → IsAt paths k b → IsAt p.instructions j x → IsAt p.instructions k y → which x ≡ Some r → which y ≡ Some r'
          → IsWithin address r → IsWithin address r' → j ≡ k
      one_owner j k a b x y r r' address at_a at_b at_x at_y is_x is_y within_r within_r' =
          let under = ((range_of_reached j a x r at_a at_x is_x).0.members address).0 within_r in
          let under' = ((range_of_reached k b y r' at_b at_y is_y).0.members address).0 within_r' in
          let same : under.0 ≡ under'.0 = same_at paths address under.0 under'.0 under.1 under'.1 in
          let front : a ≡ b = one_front a b step step (sym under.2 ∙ (ap above same ∙ under'.2)) in
          one_place paths paths_once j k b (at_a ∙ ap Some front) at_b

      module _ (P : Path → Type 0) (ranges : List (Range ℕ)) (h : HasRanges which paths p P ranges) where
        reached : (r : Range ℕ) → Among ranges r → IsReached which paths p P r
        reached r a = (h.members r).0 (contains_from_among ranges r a)

        apart : (r r' : Range ℕ) (address : ℕ) → Among ranges r → Among ranges r' → Among (addresses r) address → Among (addresses r') address → r ≡ r'
        apart r r' address a a' in_r in_r' =
            let m = reached r a in
            let m' = reached r' a' in
            let same : m.0 ≡ m'.0 = one_owner m.0 m'.0 m.1 m'.1 m.2 m'.2 r r' address m.3 m'.3 m.4 m'.4 m.5 m'.5 (within_addresses r address in_r) (within_addresses r' address in_r') in
            let instruction : m.2 ≡ m'.2 = same_at p.instructions m'.0 m.2 m'.2 (subst (λ k. IsAt p.instructions k m.2) same m.4) m'.4 in
            some_is (sym m.5 ∙ (ap which instruction ∙ m'.5))

        pub hold_under : HoldOnce paths ranges (λ path. (front : Path) × (above path ≡ Some (front, step)) × P front)
        hold_under = record {
          once = AllPairs-from_Distinct (all_addresses ranges) (distinct_flat_map addresses ranges (distinct_from_pairs ranges h.once) (λ r a. distinct_range r.start (r.end - r.start)) apart);
          members = λ address. (
            λ c. let at = among_flat_map addresses ranges address (among_from_contains (all_addresses ranges) address c) in
                let m = reached at.0 at.1 in
                let under = ((range_of_reached m.0 m.1 m.2 at.0 m.3 m.4 m.5).0.members address).0 (within_addresses at.0 address at.2) in
                (under.0, under.1, (m.1, under.2, m.6)),
            λ x. let k = front_at address x.0 x.2.0 step x.1 x.2.1 in
                let i = instruction_at k.0 x.2.0 k.1 in
                found address x.0 x.2.0 x.1 x.2.1 x.2.2 k.0 i.0 k.1 i.1 (which i.0) refl (has k.0 x.2.0 i.0 k.1 i.1),
          );
        }
          where
            found : (address : ℕ) (path front : Path) → IsAt paths address path → above path ≡ Some (front, step) → P front → (k : ℕ) (i : Instruction) → IsAt paths k front → IsAt p.instructions k i
                → (o : Option (Range ℕ)) → which i ≡ o → IsRangeOf paths o (Some (front, step)) → Contains (all_addresses ranges) address
            found address path front at under fits k i at_k at_i None is range = absurd (range address path at under)
            found address path front at under fits k i at_k at_i (Some r) is range =
                let a : Among ranges r = among_from_contains ranges r ((h.members r).1 (k, front, i, at_k, at_i, is, fits)) in
                contains_from_among (all_addresses ranges) address (flat_map_among addresses ranges r address a (addresses_within r address ((range.0.members address).1 (path, at, under))))

-- 4. The active ranges

pub range_is : (a b : Range ℕ) → is_same_range a b ≡ true → a ≡ b
range_is a b h =
    let both = and_parts (a.start == b.start) (a.end == b.end) h in
    let start : a.start ≡ b.start = (Decides-eqb a.start b.start).0 both.0 in
    let end : a.end ≡ b.end = (Decides-eqb a.end b.end).0 both.1 in
    λ i. record { start = start i; end = end i }

pub range_same : (a b : Range ℕ) → a ≡ b → is_same_range a b ≡ true
range_same a b is = and_of (a.start == b.start) (a.end == b.end) ((Decides-eqb a.start b.start).1 (ap (λ (r : Range ℕ). r.start) is)) ((Decides-eqb a.end b.end).1 (ap (λ (r : Range ℕ). r.end) is))

pub active_among : (active : List (Range ℕ × ℕ)) (r : Range ℕ) → is_range_active active r ≡ true → Among (ranges_of_active active) r
active_among active r h =
    let at = among_any (λ (a : Range ℕ × ℕ). is_same_range a.0 r) active h in
    subst (Among (ranges_of_active active)) (range_is at.0.0 r at.2) (map_among (λ (a : Range ℕ × ℕ). a.0) active at.0 at.1)

pub among_active : (active : List (Range ℕ × ℕ)) (r : Range ℕ) → Among (ranges_of_active active) r → is_range_active active r ≡ true
among_active active r h =
    let at = among_map (λ (a : Range ℕ × ℕ). a.0) active r h in
    any_among (λ (a : Range ℕ × ℕ). is_same_range a.0 r) active at.0 at.1 (range_same at.0.0 r at.2)

-- an element's ranges join the active ones, each that isn't among them yet
module _ (address : ℕ) where
  with_one : (active : List (Range ℕ × ℕ)) (q : Range ℕ) → ranges_of_active (active ++ (q, address) ∷ []) ≡ ranges_of_active active ++ q ∷ []
  with_one active q = map-append (λ (a : Range ℕ × ℕ). a.0) active ((q, address) ∷ [])

  abbrev with_next : List (Range ℕ × ℕ) → Range ℕ → List (Range ℕ × ℕ)
  with_next active q = if is_range_active active q then active else active ++ (q, address) ∷ []

  next_is : (active : List (Range ℕ × ℕ)) (q r : Range ℕ) → Among (ranges_of_active (with_next active q)) r ↔ (Among (ranges_of_active active) r ⊎ (q ≡ r))
  next_is active q r = by_test (is_range_active active q) refl
    where
      by_test : (b : Bool) → is_range_active active q ≡ b → Among (ranges_of_active (if b then active else active ++ (q, address) ∷ [])) r ↔ (Among (ranges_of_active active) r ⊎ (q ≡ r))
      by_test true is = (λ old. inl old, λ h. elim h [ inl old ↦ old | inr same ↦ subst (Among (ranges_of_active active)) same (active_among active q is) ])
      by_test false is = (
        λ h. elim (among_either (ranges_of_active active) (q ∷ []) r (subst (λ rs. Among rs r) (with_one active q) h)) [ inl old ↦ inl old | inr (inl same) ↦ inr same | inr (inr none) ↦ absurd none ],
        λ h. subst (λ rs. Among rs r) (sym (with_one active q)) (elim h [ inl old ↦ among_front (ranges_of_active active) (q ∷ []) r old | inr same ↦ among_back (ranges_of_active active) (q ∷ []) r (inl same) ]),
      )

  next_distinct : (active : List (Range ℕ × ℕ)) (q : Range ℕ) → Distinct (ranges_of_active active) → Distinct (ranges_of_active (with_next active q))
  next_distinct active q d = by_test (is_range_active active q) refl
    where
      new_one : is_range_active active q ≡ false → (r : Range ℕ) → Among (ranges_of_active active) r → Among (q ∷ []) r → ⊥
      new_one is r old (inl same) = true≢false (sym (among_active active q (subst (Among (ranges_of_active active)) (sym same) old)) ∙ is)
      new_one is r old (inr a) = absurd a

      by_test : (b : Bool) → is_range_active active q ≡ b → Distinct (ranges_of_active (if b then active else active ++ (q, address) ∷ []))
      by_test true is = d
      by_test false is = subst Distinct (sym (with_one active q)) (distinct_append (ranges_of_active active) (q ∷ []) d (λ a. absurd a, tt) (new_one is))

  activated_distinct : (active : List (Range ℕ × ℕ)) (ranges : List (Range ℕ)) → Distinct (ranges_of_active active) → Distinct (ranges_of_active (activated active address ranges))
  activated_distinct active [] d = d
  activated_distinct active (q ∷ ranges) d = activated_distinct (with_next active q) ranges (next_distinct active q d)

  activated_is : (active : List (Range ℕ × ℕ)) (ranges : List (Range ℕ)) (r : Range ℕ) → Among (ranges_of_active (activated active address ranges)) r ↔ (Among (ranges_of_active active) r ⊎ Among ranges r)
  activated_is active [] r = (λ a. inl a, λ h. elim h [ inl old ↦ old | inr none ↦ absurd none ])
  activated_is active (q ∷ ranges) r =
      let more = activated_is (with_next active q) ranges r in
      let here = next_is active q r in (
        λ a. elim (more.0 a) [ inl old ↦ elim (here.0 old) [ inl o ↦ inl o | inr is ↦ inr (inl is) ] | inr new ↦ inr (inr new) ],
        λ h. more.1 (elim h [ inl old ↦ inl (here.1 (inl old)) | inr (inl is) ↦ inl (here.1 (inr is)) | inr (inr new) ↦ inr new ]),
      )

abbrev SomeAncestorMatches : List Element → Path → Type 0
SomeAncestorMatches elements path = some_ancestor_passes (matches path) elements ≡ true

abbrev ParentMatches : List Element → Path → Type 0
ParentMatches elements path = parent_passes (matches path) elements ≡ true

module _ (paths : List Path) (p : Program) where
  abbrev ActiveAre : List OpenItem → List Element → Type 0
  ActiveAre items elements = Distinct (ranges_of_active (active_of items)) × ((r : Range ℕ) → Among (ranges_of_active (active_of items)) r ↔ IsReached hereditary_jumps_of paths p (SomeAncestorMatches elements) r)

  reached_by : (which : Instruction → Option (Range ℕ)) (P Q : Path → Type 0) → ((path : Path) → P path → Q path) → (r : Range ℕ) → IsReached which paths p P r → IsReached which paths p Q r
  reached_by which P Q f r h = (h.0, h.1, h.2, h.3, h.4, h.5, f h.1 h.6)

  active_are : (items : List OpenItem) (elements : List Element) → AreItems paths p items elements → ActiveAre items elements
  active_are [] [] are = (tt, λ r. (λ h. absurd h, λ h. let e = h.6 in cc))
  active_are [] (e ∷ outer) are = absurd are
  active_are (item ∷ items) [] are = absurd are
  active_are (item ∷ items) (e ∷ outer) are = more item items e outer are.0 (active_are items outer are.1)
    where
      more : (item : OpenItem) (items : List OpenItem) (e : Element) (outer : List Element) → IsItem paths p item e outer → ActiveAre items outer → ActiveAre (item ∷ items) (e ∷ outer)
      more item items e outer is before =
          let old : List (Range ℕ × ℕ) = active_of items in (
            activated_distinct (length items) old item.hereditary_jumps before.0,
            λ r. (
              λ h. elim ((activated_is (length items) old item.hereditary_jumps r).0 h) [
                | inl a ↦ reached_by hereditary_jumps_of (SomeAncestorMatches outer) (SomeAncestorMatches (e ∷ outer)) (λ path fits. or_of (matches path e outer) _ (inr fits)) r ((before.1 r).0 a)
                | inr a ↦ reached_by hereditary_jumps_of (Matches e outer) (SomeAncestorMatches (e ∷ outer)) (λ path fits. or_of (matches path e outer) _ (inl fits)) r ((is.hereditary_jumps.members r).0 (contains_from_among item.hereditary_jumps r a))
              ],
              λ h. (activated_is (length items) old item.hereditary_jumps r).1 (elim (or_parts (matches h.1 e outer) _ h.6) [
                | inl fits ↦ inr (among_from_contains item.hereditary_jumps r ((is.hereditary_jumps.members r).1 (h.0, h.1, h.2, h.3, h.4, h.5, fits)))
                | inr fits ↦ inl ((before.1 r).1 (h.0, h.1, h.2, h.3, h.4, h.5, fits))
              ]),
            ),
          )

  active_have : (items : List OpenItem) (elements : List Element) → AreItems paths p items elements → HasRanges hereditary_jumps_of paths p (SomeAncestorMatches elements) (ranges_of_active (active_of items))
  active_have items elements are =
      let all = active_are items elements are in
      record {
        once = AllPairs-from_Distinct (ranges_of_active (active_of items)) all.0;
        members = λ r. (λ h. (all.1 r).0 (among_from_contains (ranges_of_active (active_of items)) r h), λ h. contains_from_among (ranges_of_active (active_of items)) r ((all.1 r).1 h));
      }

  -- 5. The last item's jumps

  last_have : (items : List OpenItem) (elements : List Element) → AreItems paths p items elements → HasRanges jumps_of paths p (ParentMatches elements) (last_jumps items)
  last_have [] [] are = record {
    once = AllPairs-from_Distinct [] tt;
    members = λ r. (λ h. absurd (among_from_contains [] r h), λ h. let e = h.6 in cc);
  }
  last_have [] (e ∷ outer) are = absurd are
  last_have (item ∷ items) [] are = absurd are
  last_have (item ∷ items) (e ∷ outer) are = are.0.jumps

-- 6. All of them

-- what a path stands under reaches it
abbrev Under : Combinator → (Path → Type 0) → Path → Type 0
Under step P path = (front : Path) × (above path ≡ Some (front, step)) × P front

module _ (elements : List Element) where
  left_of : (path : Path) → left_matches path elements ≡ true → (above path ≡ None) ⊎ (Under Child (ParentMatches elements) path ⊎ Under Descendant (SomeAncestorMatches elements) path)
  left_of (First c) h = inl refl
  left_of (Then front Child c) h = inr (inl (front, refl, h))
  left_of (Then front Descendant c) h = inr (inr (front, refl, h))

  none_left : (path : Path) → above path ≡ None → left_matches path elements ≡ true
  none_left (First c) h = refl
  none_left (Then front step c) h = cc

  left_under : (path front : Path) (step : Combinator) → above path ≡ Some (front, step) → left_matches path elements ≡ left_matches (Then front step (last_compound path)) elements
  left_under (First c) front step is = cc
  left_under (Then other step' c) front step is = λ i. left_matches (Then (one_front other front step' step is i) (one_step other front step' step is i) c) elements

module _ (paths : List Path) where
  entry_holds : (r : Range ℕ) → HoldsAddresses paths r None → HoldOnce paths (r ∷ []) (λ path. above path ≡ None)
  entry_holds r h = record {
    once = AllPairs-from_Distinct (all_addresses (r ∷ [])) (subst Distinct (sym (append-nil (addresses r))) (distinct_range r.start (r.end - r.start)));
    members = λ address. (
      λ c. (h.members address).0 (within_addresses r address (subst (λ ps. Among ps address) (append-nil (addresses r)) (among_from_contains (all_addresses (r ∷ [])) address c))),
      λ x. contains_from_among (all_addresses (r ∷ [])) address (subst (λ ps. Among ps address) (sym (append-nil (addresses r))) (addresses_within r address ((h.members address).1 x))),
    );
  }

  -- two lists of ranges that hold the addresses of different paths
  joined : (rs qs : List (Range ℕ)) (P Q R : Path → Type 0) → HoldOnce paths rs P → HoldOnce paths qs Q → ((path : Path) → P path → Q path → ⊥) → ((path : Path) → R path ↔ (P path ⊎ Q path)) → HoldOnce paths (rs ++ qs) R
  joined rs qs P Q R first second apart both =
      let whole : all_addresses (rs ++ qs) ≡ all_addresses rs ++ all_addresses qs = flat_map-append addresses rs qs in
      record {
        once = AllPairs-from_Distinct (all_addresses (rs ++ qs)) (subst Distinct (sym whole) (distinct_append (all_addresses rs) (all_addresses qs) (distinct_from_pairs (all_addresses rs) first.once) (distinct_from_pairs (all_addresses qs) second.once)
            (λ address a b.
            let x = (first.members address).0 (contains_from_among (all_addresses rs) address a) in
            let y = (second.members address).0 (contains_from_among (all_addresses qs) address b) in
            apart x.0 x.2 (subst Q (same_at paths address y.0 x.0 y.1 x.1) y.2))));
        members = λ address. (
          λ c. elim (among_either (all_addresses rs) (all_addresses qs) address (subst (λ ps. Among ps address) whole (among_from_contains (all_addresses (rs ++ qs)) address c))) [
            | inl a ↦ let x = (first.members address).0 (contains_from_among (all_addresses rs) address a) in (x.0, x.1, (both x.0).1 (inl x.2))
            | inr b ↦ let y = (second.members address).0 (contains_from_among (all_addresses qs) address b) in (y.0, y.1, (both y.0).1 (inr y.2))
          ],
          λ x. contains_from_among (all_addresses (rs ++ qs)) address (subst (λ ps. Among ps address) (sym whole) (elim ((both x.0).0 x.2) [
            | inl fits ↦ among_front (all_addresses rs) (all_addresses qs) address (among_from_contains (all_addresses rs) address ((first.members address).1 (x.0, x.1, fits)))
            | inr fits ↦ among_back (all_addresses rs) (all_addresses qs) address (among_from_contains (all_addresses qs) address ((second.members address).1 (x.0, x.1, fits)))
          ])),
        );
      }

steps_differ : (path : Path) (P Q : Path → Type 0) → Under Child P path → Under Descendant Q path → ⊥
steps_differ path P Q a b = not_child (one_step a.0 b.0 Child Descendant (sym a.1 ∙ b.1))

none_under : (path : Path) (step : Combinator) (P : Path → Type 0) → above path ≡ None → Under step P path → ⊥
none_under path step P none under = let e = under.1 in cc

pub ranges_hold_left_matches : RangesHoldLeftMatches
ranges_hold_left_matches s paths p items elements closed program are =
    let jumps = hold_under s paths p program closed jumps_of Child (λ address path i at at'. (program.each address path i at at').jumps) (ParentMatches elements) (last_jumps items) (last_have paths p items elements are) in
    let active = hold_under s paths p program closed hereditary_jumps_of Descendant (λ address path i at at'. (program.each address path i at at').hereditary_jumps) (SomeAncestorMatches elements) (ranges_of_active (active_of items))
    (active_have paths p items elements are) in
    let below = joined paths (last_jumps items) (ranges_of_active (active_of items)) (Under Child (ParentMatches elements)) (Under Descendant (SomeAncestorMatches elements))
    (λ path. Under Child (ParentMatches elements) path ⊎ Under Descendant (SomeAncestorMatches elements) path) jumps active (λ path. steps_differ path (ParentMatches elements) (SomeAncestorMatches elements)) (λ path. (λ h. h, λ h. h)) in
    joined paths (p.entry ∷ []) (last_jumps items ++ ranges_of_active (active_of items)) (λ path. above path ≡ None) (λ path. Under Child (ParentMatches elements) path ⊎ Under Descendant (SomeAncestorMatches elements) path) (LeftMatches elements)
    (entry_holds paths p.entry program.entry) below
    (λ path none either_. elim either_ [ inl h ↦ none_under path Child (ParentMatches elements) none h | inr h ↦ none_under path Descendant (SomeAncestorMatches elements) none h ])
    (λ path. (left_of elements path, λ h. elim h [ inl none ↦ none_left elements path none | inr (inl c) ↦ left_under elements path c.0 Child c.1 ∙ c.2 | inr (inr d) ↦ left_under elements path d.0 Descendant d.1 ∙ d.2 ]))

-- Each of them lies within the instructions.
pub ranges_are_inside : (s : Selectors) (paths : List Path) (p : Program) (items : List OpenItem) (elements : List Element) → AreClosed s → IsProgramOf s paths p → AreItems paths p items elements
    → (r : Range ℕ) → Among (ranges_to_run p items) r → (r.start ≤ r.end) × (r.end ≤ length p.instructions)
ranges_are_inside s paths p items elements closed program are r (inl is) =
    subst (λ (q : Range ℕ). (q.start ≤ q.end) × (q.end ≤ length p.instructions)) is (let inside = program.entry.inside in let count = program.count in (program.entry.ordered, omega (arith, inside, count)))
ranges_are_inside s paths p items elements closed program are r (inr a) =
    elim (among_either (last_jumps items) (ranges_of_active (active_of items)) r a) [
      | inl j ↦
          let h = ((last_have paths p items elements are).members r).0 (contains_from_among (last_jumps items) r j) in
          inside Child ((range_of_reached s paths p program closed jumps_of Child (λ address path i at at'. (program.each address path i at at').jumps) h.0 h.1 h.2 r h.3 h.4 h.5).0)
      | inr j ↦
          let h = ((active_have paths p items elements are).members r).0 (contains_from_among (ranges_of_active (active_of items)) r j) in
          inside Descendant ((range_of_reached s paths p program closed hereditary_jumps_of Descendant (λ address path i at at'. (program.each address path i at at').hereditary_jumps) h.0 h.1 h.2 r h.3 h.4 h.5).0)
    ]
  where
    inside : (step : Combinator) {path : Path} → HoldsAddresses paths r (Some (path, step)) → (r.start ≤ r.end) × (r.end ≤ length p.instructions)
    inside step h = let within = h.inside in let count = program.count in (h.ordered, omega (arith, within, count))

pub programs_have_each_node : ProgramsHaveEachNode
programs_have_each_node s paths p closed program = record {
  count = program.count
      ∙ same_length paths s.nodes (distinct_from_pairs paths program.once) (distinct_from_pairs s.nodes closed.once)
      (λ path a. among_from_contains s.nodes path ((program.same path).0 (contains_from_among paths path a)))
      (λ path a. among_from_contains paths path ((program.same path).1 (contains_from_among s.nodes path a)));
  address = λ node h. let at = address_of_node s paths p program node h in (at.0, at.1, omega (arith, at_within paths at.0 node at.1, program.count));
}
