-- What running addresses gives.
use Rattle.lol_machine.proofs.Common.{◌≡◌, ℕ, Bool, true, false, cond, List, [], Option, Some, None, ◌↔◌, inl, inr, refl, sym, ap, ◌∙◌, subst, arith, Contains, slice_get, option_to_list, Range, Element, all_hold, Path, Selectors, last_compound, Among, Distinct, among_from_contains, contains_from_among, distinct_from_pairs, left_matches, matches, matching_ids, among_matching_ids, matching_ids_among, and_parts, and_of, IsAt, IsRangeOf, IsProgramOf, AreClosed, all_addresses, HasRanges, Matches, HoldOnce, jumps_of, hereditary_jumps_of, given_by, gathered_from_addresses, ids_list, context_of, Context, is_tried}
use Rattle.lol_base.specs.MemberLaws.{among_flat_map, flat_map_among, distinct_flat_map}
use Rattle.lol_css.specs.declared.selector.Combinator.{Combinator}
use Rattle.lol_css.specs.declared.selector.Combinator.TheVariants.{Child, Descendant}
use Rattle.lol_program.specs.Programs.{Instruction, Program}
use Rattle.lol_machine.proofs.Held.{instruction_at, address_of_node, range_of_reached, one_owner}
use Rattle.lol_machine.proofs.Counted.{Tried, path_held, held_at}
use Rattle.lol_machine.specs.TriedLaws.{tried_left}
use Rattle.lol_machine.proofs.KeysLoseNothing.{matching_tried}
use Rattle.lol_program.specs.NodeOnceLaws.{AllPairs-from_Distinct}

module _ {A : Type 0} (what : Instruction → List A) (e : Element) where
  of_cond : (b : Bool) (xs : List A) (y : A) → Among (cond b xs []) y → (b ≡ true) × Among xs y
  of_cond true xs y h = (refl, h)
  of_cond false xs y h = absurd h

  to_cond : (b : Bool) (xs : List A) (y : A) → b ≡ true → Among xs y → Among (cond b xs []) y
  to_cond true xs y h a = a
  to_cond false xs y h a = cc

  pub of_given : (o : Option Instruction) (y : A) → Among (given_by what e o) y → (i : Instruction) × (o ≡ Some i) × (i.holds e ≡ true) × Among (what i) y
  of_given None y h = absurd h
  of_given (Some i) y h = let at = of_cond (i.holds e) (what i) y h in (i, refl, at.0, at.1)

  pub to_given : (o : Option Instruction) (i : Instruction) (y : A) → o ≡ Some i → i.holds e ≡ true → Among (what i) y → Among (given_by what e o) y
  to_given o i y is holds a = subst (λ z. Among (given_by what e z) y) (sym is) (to_cond (i.holds e) (what i) y holds a)

of_option : {A : Type 0} (o : Option A) (y : A) → Among (option_to_list o) y → o ≡ Some y
of_option None y h = absurd h
of_option (Some x) y (inl is) = ap Some is
of_option (Some x) y (inr h) = absurd h

to_option : {A : Type 0} (o : Option A) (y : A) → o ≡ Some y → Among (option_to_list o) y
to_option o y is = subst (λ z. Among (option_to_list z) y) (sym is) (inl refl)

one_option : {A : Type 0} (b : Bool) (o : Option A) → Distinct (cond b (option_to_list o) [])
one_option true None = tt
one_option true (Some x) = (λ h. h, tt)
one_option false o = tt

module _ (s : Selectors) (paths : List Path) (p : Program) (closed : AreClosed s) (program : IsProgramOf s paths p) (ranges : List (Range ℕ)) (outer : List Element) (e : Element) (held : HoldOnce paths ranges (Tried s e outer)) where
  -- an instruction at an address that is run holds exactly if its path matches
  holds_matches : (address : ℕ) (path : Path) (i : Instruction) → IsAt paths address path → IsAt p.instructions address i → Tried s e outer path → i.holds e ≡ true → matches path e outer ≡ true
  holds_matches address path i at at' tried holds = and_of _ _ (sym ((program.each address path i at at').means e).1 ∙ holds) (tried_left s e outer path tried)

  matches_holds : (address : ℕ) (path : Path) (i : Instruction) → IsAt paths address path → IsAt p.instructions address i → matches path e outer ≡ true → (i.holds e ≡ true) × Tried s e outer path
  matches_holds address path i at at' fits =
      let both = and_parts (all_hold (last_compound path) e) (left_matches path outer) fits in
      (((program.each address path i at at').means e).1 ∙ both.0, matching_tried s e outer path fits)

  module _ {A : Type 0} (what : Instruction → List A) where
    gathered_from : (y : A) → Among (gathered_from_addresses what p e (all_addresses ranges)) y → (address : ℕ) × (path : Path) × (i : Instruction) × IsAt paths address path × IsAt p.instructions address i × (matches path e outer ≡ true) × Among (what i) y
    gathered_from y h =
        let at = among_flat_map (λ address. given_by what e (slice_get p.instructions address)) (all_addresses ranges) y h in
        let x = path_held s paths p closed program ranges (is_tried s e outer) held at.0 at.1 in
        let i = of_given what e (slice_get p.instructions at.0) y at.2 in
        (at.0, x.0, i.0, x.1, i.1, holds_matches at.0 x.0 i.0 x.1 i.1 x.2 i.2, i.3)

    gathered_at : (y : A) (address : ℕ) (path : Path) (i : Instruction) → IsAt paths address path → IsAt p.instructions address i → matches path e outer ≡ true → Among (what i) y → Among (gathered_from_addresses what p e (all_addresses ranges)) y
    gathered_at y address path i at at' fits a =
        let both = matches_holds address path i at at' fits in
        flat_map_among (λ address. given_by what e (slice_get p.instructions address)) (all_addresses ranges) address y
        (held_at s paths p closed program ranges (is_tried s e outer) held address path at both.1)
        (to_given what e (slice_get p.instructions address) i y at' both.0 a)

  ids_reported : (id : ℕ) → Contains (gathered_from_addresses ids_list p e (all_addresses ranges)) id ↔ Contains (matching_ids s.pairs e outer) id
  ids_reported id = (
    λ c.
        let h = gathered_from ids_list id (among_from_contains _ id c) in
        contains_from_among _ id (matching_ids_among e outer s.pairs h.1 id (among_from_contains s.pairs (h.1, id) (((program.each h.0 h.1 h.2 h.3 h.4).ids id).0 (contains_from_among h.2.ids id h.6))) h.5),
    λ c.
        let m = among_matching_ids e outer s.pairs id (among_from_contains _ id c) in
        let pair = contains_from_among s.pairs (m.0, id) m.1 in
        let address = address_of_node s paths p program m.0 (closed.paths m.0 id pair) in
        let i = instruction_at s paths p program address.0 m.0 address.1 in
        contains_from_among _ id (gathered_at ids_list id address.0 m.0 i.0 address.1 i.1 m.2 (among_from_contains i.0.ids id (((program.each address.0 m.0 i.0 address.1 i.1).ids id).1 pair))),
  )

  module _ (which : Instruction → Option (Range ℕ)) (step : Combinator)
      (has : (address : ℕ) (path : Path) (i : Instruction) → IsAt paths address path → IsAt p.instructions address i → IsRangeOf paths (which i) (Some (path, step))) where
    abbrev list_of : Instruction → List (Range ℕ)
    list_of i = option_to_list (which i)

    one_each : (o : Option Instruction) → Distinct (given_by list_of e o)
    one_each None = tt
    one_each (Some i) = one_option (i.holds e) (which i)

    one_address_each : (j k : ℕ) (r : Range ℕ) → Among (all_addresses ranges) j → Among (all_addresses ranges) k → Among (given_by list_of e (slice_get p.instructions j)) r → Among (given_by list_of e (slice_get p.instructions k)) r → j ≡ k
    one_address_each j k r a b in_j in_k =
        let x = path_held s paths p closed program ranges (is_tried s e outer) held j a in
        let y = path_held s paths p closed program ranges (is_tried s e outer) held k b in
        let i = of_given list_of e (slice_get p.instructions j) r in_j in
        let i' = of_given list_of e (slice_get p.instructions k) r in_k in
        let is = of_option (which i.0) r i.3 in
        let is' = of_option (which i'.0) r i'.3 in
        let some = (range_of_reached s paths p program closed which step has j x.0 i.0 r x.1 i.1 is).1 in
        one_owner s paths p program closed which step has j k x.0 y.0 i.0 i'.0 r r r.start x.1 y.1 i.1 i'.1 is is' (omega arith, some) (omega arith, some)

    ranges_had : HasRanges which paths p (Matches e outer) (gathered_from_addresses list_of p e (all_addresses ranges))
    ranges_had = record {
      once = AllPairs-from_Distinct _ (distinct_flat_map (λ address. given_by list_of e (slice_get p.instructions address)) (all_addresses ranges) (distinct_from_pairs (all_addresses ranges) held.once)
          (λ address a. one_each (slice_get p.instructions address)) one_address_each);
      members = λ r. (
        λ c. let h = gathered_from list_of r (among_from_contains _ r c) in (h.0, h.1, h.2, h.3, h.4, of_option (which h.2) r h.6, h.5),
        λ h. contains_from_among _ r (gathered_at list_of r h.0 h.1 h.2 h.3 h.4 h.6 (to_option (which h.2) r h.5)),
      );
    }

-- the ids of the report, and the ranges of the element's item
pub record GivesReport (s : Selectors) (paths : List Path) (p : Program) (context : Context) (e : Element) (outer : List Element) : Type 0 where
  pub ids : (id : ℕ) → Contains context.ids id ↔ Contains (matching_ids s.pairs e outer) id
  pub jumps : HasRanges jumps_of paths p (Matches e outer) context.jumps
  pub hereditary_jumps : HasRanges hereditary_jumps_of paths p (Matches e outer) context.hereditary_jumps

pub runs_give_reports : (s : Selectors) (paths : List Path) (p : Program) (ranges : List (Range ℕ)) (e : Element) (outer : List Element)
    → AreClosed s → IsProgramOf s paths p → HoldOnce paths ranges (Tried s e outer)
    → GivesReport s paths p (context_of p true e (all_addresses ranges)) e outer
runs_give_reports s paths p ranges e outer closed program held = record {
  ids = ids_reported s paths p closed program ranges outer e held;
  jumps = ranges_had s paths p closed program ranges outer e held jumps_of Child (λ address path i at at'. (program.each address path i at at').jumps);
  hereditary_jumps = ranges_had s paths p closed program ranges outer e held hereditary_jumps_of Descendant (λ address path i at at'. (program.each address path i at at').hereditary_jumps);
}
