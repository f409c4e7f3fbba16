-- What is run of a start tag's ranges where a program has rows.
use Rattle.lol_machine.proofs.Common.{◌≡◌, ℕ, ◌+◌, ◌-◌, ◌<◌, ◌≤◌, ◌^◌, Bool, true, false, cond, not, ◌&&◌, ◌||◌, and-true, List, [], ◌∷◌, ◌++◌, length, filter, All, Option, Some, None, inl, inr, refl, sym, ap, ◌∙◌, subst, arith, Contains, slice_get, list_any, option_map, Range, range_with_len, tag_attributes, Element, Path, Selectors, Among, among_from_contains, contains_from_among, among_filter, filter_among, among_map, same_bool, and_parts, and_of, at_among, at_within, IsAt, IsProgramOf, addresses, all_addresses, HoldOnce, LeftMatches, IsInsideOf, is_tried, left_matches, lowercased}
use Rattle.std.specs.Prelude.{min, ◌≢◌}
use Rattle.std.proofs.lemmas.List.Kept.{AllPairs-filter}
use Rattle.std.proofs.lemmas.List.Elements.{All-weaker, All-contains_itself}
use Rattle.std.proofs.lemmas.List.FromFn.{length-range_with_len}
use Rattle.std.proofs.lemmas.List.{length-append}
use Rattle.std.proofs.lemmas.Option.{slice_get-map}
use Rattle.lol_base.specs.MemberLaws.{among_any, any_among}
use Rattle.lol_instructions.specs.Keys.{AttributeKey, ById, ByClass, ByPart, ByAttribute, is_ruled_out_by_attributes, is_another_name, is_ruled_out_by_name, lacks}
use Rattle.lol_instructions.specs.CompiledKeys.{lacks_key}
use Rattle.lol_instructions.specs.declared.instruction.Instruction.{Instruction}
use Rattle.lol_program.specs.Programs.{Once}
use Rattle.lol_program.specs.ProgramViews.{has_rows, instruction_shown, program_shown}
use Rattle.lol_program.specs.Programs as programs
use Rattle.lol_program.specs.declared.program.Program.{Program}
use Rattle.lol_rows.specs.Rows.{is_left_by_keys, is_left_by_name, is_left_open, keys_of, passes_at, some_pass}
use Rattle.lol_machine.specs.KeyTries as tries
use Rattle.lol_machine.specs.KeyTries.{asks_at_once, is_left, node_keys}
use Rattle.lol_machine.specs.SparedRuns.{all_passing, single, singles, spared}
use Rattle.lol_machine.specs.SparedLaws.{any_append, passing_all, passing_few}
use Rattle.lol_machine.proofs.Counted.{Tried}
use Rattle.lol_machine.proofs.Held.{instruction_at, address_of_node}
use Rattle.lol_machine.specs.TriedLaws.{tried_left}
use Rattle.lol_machine.proofs.KeysLoseNothing.{NotAtOnce}

-- 1. Addresses as ranges

single_addresses : (a : ℕ) → a < 2 ^ 63 → addresses (single a) ≡ a ∷ []
single_addresses a small =
    let count : min (a + 1) (2 ^ 64 - 1) - a ≡ 1 = omega (arith, small) in
    ap (range_with_len a) count

pub singles_addresses : (xs : List ℕ) → ((a : ℕ) → Among xs a → a < 2 ^ 63) → all_addresses (singles xs) ≡ xs
singles_addresses [] small = refl
singles_addresses (x ∷ xs) small = λ i. single_addresses x (small x (inl refl)) i ++ singles_addresses xs (λ a h. small a (inr h)) i

pub singles_few : (xs : List ℕ) → length (all_addresses (singles xs)) ≤ length xs
singles_few [] = omega arith
singles_few (x ∷ xs) =
    let one = length-range_with_len x (min (x + 1) (2 ^ 64 - 1) - x) in
    let all = length-append (addresses (single x)) (all_addresses (singles xs)) in
    let rest = singles_few xs in
    omega (arith, one, all, rest)

-- 2. What passes of ranges

any_passes : (left : Instruction → Bool) (instructions : List Instruction) (ranges : List (Range ℕ)) → list_any (some_pass left instructions) ranges ≡ list_any (passes_at left instructions) (all_addresses ranges)
any_passes left instructions [] = refl
any_passes left instructions (r ∷ ranges) =
    ap (λ b. list_any (passes_at left instructions) (addresses r) || b) (any_passes left instructions ranges) ∙ sym (any_append (passes_at left instructions) (addresses r) (all_addresses ranges))

-- a key that a tag lacks
lacks_same : (key : Option AttributeKey) (e : Element) → lacks_key key (tag_attributes e.tag) ≡ lacks key e
lacks_same None e = refl
lacks_same (Some (ById id)) e = refl
lacks_same (Some (ByClass name)) e = refl
lacks_same (Some (ByPart name part)) e = refl
lacks_same (Some (ByAttribute name)) e = refl

passing_address : (left : Instruction → Bool) (instructions : List Instruction) (a : ℕ) → passes_at left instructions a ≡ true → a < length instructions
passing_address left instructions a h = by_get (slice_get instructions a) refl h
  where
    by_get : (o : Option Instruction) → slice_get instructions a ≡ o → (passes_at left instructions a ≡ true) → a < length instructions
    by_get None none h = absurd (no (passes_at left instructions a) h (ap passes_of none))
      where
        passes_of : Option Instruction → Bool
        passes_of None = false
        passes_of (Some i) = left i

        no : (b : Bool) → b ≡ true → b ≡ false → ⊥
        no b passes fails = cc
    by_get (Some i) is h = at_within instructions a i is

-- no more is run than where nothing is spared
pub spared_few : (prog : Program) (left : Instruction → Bool) (ranges : List (Range ℕ)) → length (all_addresses (spared prog left ranges)) ≤ length (all_addresses ranges)
spared_few prog left ranges = by_rows (has_rows prog)
  where
    by_rows : (b : Bool) → length (all_addresses (cond b (singles (all_passing left prog.instructions.items ranges)) ranges)) ≤ length (all_addresses ranges)
    by_rows true =
        let few = passing_few left prog.instructions.items ranges in
        let singled = singles_few (all_passing left prog.instructions.items ranges) in
        omega (arith, few, singled)
    by_rows false = omega arith

-- 3. Of a program of selectors

module _ (s : Selectors) (paths : List Path) (prog : Program) (program : IsProgramOf s paths (program_shown prog)) (ranges : List (Range ℕ)) (outer : List Element) (held : HoldOnce paths ranges (LeftMatches outer)) (e : Element) where
  abbrev all : List Instruction
  all = prog.instructions.items

  abbrev shown : Instruction → programs.Instruction
  shown = instruction_shown prog.enable_nth_of_type

  -- the instruction at the address of a path has its node's keys
  code_at : (address : ℕ) (path : Path) → IsAt paths address path → (i : Instruction) × (slice_get all address ≡ Some i) × (keys_of i ≡ node_keys path)
  code_at address path at = by_get (slice_get all address) refl
    where
      there : (i : programs.Instruction) × IsAt (program_shown prog).instructions address i
      there = instruction_at s paths (program_shown prog) program address path at

      by_get : (o : Option Instruction) → slice_get all address ≡ o → (i : Instruction) × (slice_get all address ≡ Some i) × (keys_of i ≡ node_keys path)
      by_get None none = absurd (not_none (sym (slice_get-map shown all address ∙ ap (option_map shown) none) ∙ there.1))
        where
          not_none : {A : Type 0} {x : A} → None ≡ Some x → ⊥
          not_none h = cc
      by_get (Some i) is = (i, is, (program.each address path (shown i) at (slice_get-map shown all address ∙ ap (option_map shown) is)).keys)

  -- of ranges, what passes
  abbrev found : (Instruction → Bool) → List ℕ
  found left = all_passing left all ranges

  -- tests of instructions by keys are tests of their nodes
  module _ (left : Instruction → Bool) (node_left : Path → Bool) (same : (path : Path) (i : Instruction) → keys_of i ≡ node_keys path → left i ≡ node_left path) where
    passes_where : (address : ℕ) (path : Path) → IsAt paths address path → passes_at left all address ≡ node_left path
    passes_where address path at =
        let code = code_at address path at in
        ap passes_of code.1 ∙ same path code.0 code.2
      where
        passes_of : Option Instruction → Bool
        passes_of None = false
        passes_of (Some i) = left i

    -- some instruction passes exactly if some node does whose left part matches
    some_passes : list_any (some_pass left all) ranges ≡ list_any (λ path. left_matches path outer && node_left path) s.nodes
    some_passes =
        any_passes left all ranges
        ∙ same_bool _ _
        (λ h.
        let address = among_any (passes_at left all) (all_addresses ranges) h in
        let x = (held.members address.0).0 (contains_from_among (all_addresses ranges) address.0 address.1) in
        any_among (λ path. left_matches path outer && node_left path) s.nodes x.0 (among_from_contains s.nodes x.0 ((program.same x.0).0 (contains_from_among paths x.0 (at_among paths address.0 x.0 x.1))))
        (and_of (left_matches x.0 outer) (node_left x.0) x.2 (sym (passes_where address.0 x.0 x.1) ∙ address.2)))
        (λ h.
        let node = among_any (λ path. left_matches path outer && node_left path) s.nodes h in
        let parts = and_parts (left_matches node.0 outer) (node_left node.0) node.2 in
        let address = address_of_node s paths (program_shown prog) program node.0 (contains_from_among s.nodes node.0 node.1) in
        any_among (passes_at left all) (all_addresses ranges) address.0 (among_from_contains (all_addresses ranges) address.0 ((held.members address.0).1 (node.0, address.1, parts.0))) (passes_where address.0 node.0 address.1 ∙ parts.1))

    module _ (size : length all < 2 ^ 63) where
      small : (a : ℕ) → Among (filter (passes_at left all) (all_addresses ranges)) a → a < 2 ^ 63
      small a h =
          let inside = passing_address left all a (among_filter (passes_at left all) (all_addresses ranges) a h).1 in
          omega (arith, inside, size)

      found_addresses : all_addresses (singles (found left)) ≡ filter (passes_at left all) (all_addresses ranges)
      found_addresses = ap (λ xs. all_addresses (singles xs)) (passing_all left all ranges) ∙ singles_addresses _ small

      -- they hold the addresses of what is tried, where that is what passes
      found_held : ((path : Path) → left_matches path outer ≡ true → is_tried s e outer path ≡ node_left path) → HoldOnce paths (singles (found left)) (Tried s e outer)
      found_held tried = record {
        once = subst Once (sym found_addresses) (AllPairs-filter (λ a b. a ≢ b) (passes_at left all) (all_addresses ranges) held.once);
        members = λ address. (
          λ c.
              let h = among_filter (passes_at left all) (all_addresses ranges) address (subst (λ xs. Among xs address) found_addresses (among_from_contains (all_addresses (singles (found left))) address c)) in
              let x = (held.members address).0 (contains_from_among (all_addresses ranges) address h.0) in
              (x.0, x.1, tried x.0 x.2 ∙ (sym (passes_where address x.0 x.1) ∙ h.1)),
          λ h.
              let fits = tried_left s e outer h.0 h.2 in
              let there = among_from_contains (all_addresses ranges) address ((held.members address).1 (h.0, h.1, fits)) in
              contains_from_among (all_addresses (singles (found left))) address (subst (λ xs. Among xs address) (sym found_addresses)
              (filter_among (passes_at left all) (all_addresses ranges) address there (passes_where address h.0 h.1 ∙ (sym (tried h.0 fits) ∙ h.2)))),
        );
      }

  -- 4. By a name, and by keys

  abbrev name : List ℕ
  name = lowercased e.tag.name

  abbrev named : Path → Bool
  named path = not (is_ruled_out_by_name (node_keys path) e)

  abbrev kept : Path → Bool
  kept path = not (is_ruled_out_by_name (node_keys path) e) && not (is_ruled_out_by_attributes (node_keys path) e)

  -- the same test, of instructions
  abbrev kept_by_keys : Instruction → Bool
  kept_by_keys = is_left_by_keys name (tag_attributes e.tag)

  named_same : (path : Path) (i : Instruction) → keys_of i ≡ node_keys path → is_left_by_name name i ≡ named path
  named_same path i is = ap (λ keys. not (is_another_name keys.name name)) is

  kept_same : (path : Path) (i : Instruction) → keys_of i ≡ node_keys path → kept_by_keys i ≡ kept path
  kept_same path i is =
      ap (λ keys. not (is_another_name keys.name name) && not (lacks_key keys.attribute (tag_attributes e.tag))) is
      ∙ ap (λ b. named path && not b) (lacks_same (node_keys path).attribute e)

  open_same : (path : Path) (i : Instruction) → keys_of i ≡ node_keys path → is_left_open name i ≡ (named path && (node_keys path).opens)
  open_same path i is = ap (λ keys. not (is_another_name keys.name name) && keys.opens) is

  -- rows tell what is asked for at once
  pub opens_asked : list_any (some_pass (is_left_open name) all) ranges ≡ list_any (tries.is_left_open node_keys e outer) s.nodes
  opens_asked =
      some_passes (is_left_open name) (λ path. named path && (node_keys path).opens) open_same
      ∙ ap (λ test. list_any test s.nodes) (λ i path. regrouped (left_matches path outer) (named path) (node_keys path).opens i)
    where
      regrouped : (a b c : Bool) → (a && (b && c)) ≡ ((a && b) && c)
      regrouped true b c = refl
      regrouped false b c = refl

  -- what is tried of selectors whose nodes are spared
  tried_by_keys : (at_once : Bool) → s.by_keys ≡ true → asks_at_once node_keys s.nodes e outer ≡ at_once → (path : Path) → left_matches path outer ≡ true
      → is_tried s e outer path ≡ (named path && not (at_once && is_ruled_out_by_attributes (node_keys path) e))
  tried_by_keys at_once by_keys asks path fits =
      ap (λ b. cond b (tries.is_tried_by_keys node_keys s.nodes e outer path) (left_matches path outer)) by_keys
      ∙ ((λ i. is_left node_keys (asks i) e outer path) ∙ ap (λ b. (b && named path) && not (at_once && is_ruled_out_by_attributes (node_keys path) e)) fits)

  -- what all the selectors' nodes are tried for
  all_held : s.by_keys ≡ false → HoldOnce paths ranges (Tried s e outer)
  all_held none = subst (λ b. HoldOnce paths ranges (λ path. cond b (tries.is_tried_by_keys node_keys s.nodes e outer path) (left_matches path outer) ≡ true)) (sym none) held

  module _ (mode : has_rows prog ≡ s.by_keys) (size : length all < 2 ^ 63) where
    -- what is tried by name, where nothing is asked for at once
    pub named_held : NotAtOnce s e outer → HoldOnce paths (spared prog (is_left_by_name name) ranges) (Tried s e outer)
    named_held later = by_rows (has_rows prog) mode
      where
        by_rows : (b : Bool) → b ≡ s.by_keys → HoldOnce paths (cond b (singles (found (is_left_by_name name))) ranges) (Tried s e outer)
        by_rows true is = found_held (is_left_by_name name) named named_same size (λ path fits. tried_by_keys false (sym is) (later (sym is)) path fits ∙ and-true (named path))
        by_rows false is = all_held (sym is)

    -- what is run with attributes, where these are asked for at once
    pub kept_held : (s.by_keys ≡ true → asks_at_once node_keys s.nodes e outer ≡ true) → HoldOnce paths (spared prog kept_by_keys ranges) (Tried s e outer)
    kept_held at_once = by_rows (has_rows prog) mode
      where
        by_rows : (b : Bool) → b ≡ s.by_keys → HoldOnce paths (cond b (singles (found kept_by_keys)) ranges) (Tried s e outer)
        by_rows true is = found_held kept_by_keys kept kept_same size (λ path fits. tried_by_keys true (sym is) (at_once (sym is)) path fits)
        by_rows false is = all_held (sym is)

  -- what is spared or not is there
  pub spared_inside : (left : Instruction → Bool) → length all < 2 ^ 63 → All (IsInsideOf all) ranges → All (IsInsideOf all) (spared prog left ranges)
  spared_inside left size inside = by_rows (has_rows prog)
    where
      by_rows : (b : Bool) → All (IsInsideOf all) (cond b (singles (found left)) ranges)
      by_rows true = All-weaker (Contains (singles (found left))) (IsInsideOf all) (λ r c.
          let from = among_map single (found left) r (among_from_contains (singles (found left)) r c) in
          let passes = among_filter (passes_at left all) (all_addresses ranges) from.0 (subst (λ xs. Among xs from.0) (passing_all left all ranges) from.1) in
          let at = passing_address left all from.0 passes.1 in
          let one : IsInsideOf all (single from.0) = (omega (arith, at, size), omega (arith, at, size)) in
          subst (IsInsideOf all) from.2 one) (singles (found left)) (All-contains_itself (singles (found left)))
      by_rows false = inside
