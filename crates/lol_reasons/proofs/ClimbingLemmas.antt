-- What a program and the items of open elements tell of a node that matched.
use Rattle.std.proofs.Common.{◌≡◌, ℕ, zero, suc, ◌+◌, ◌≤◌, Bool, true, false, cond, ◌||◌, ◌⊎◌, true≢false, List, [], ◌∷◌, ◌++◌, length, map, Option, Some, None, inl, inr, ⊎_elim, refl, sym, ap, ◌∙◌, subst, arith}
use Rattle.std.specs.Prelude.{slice_get, nat_le}
use Rattle.std.specs.declared.ops.Range.{Range}
use Rattle.std.proofs.lemmas.Bool.Decides.{Decides-ltb, leb_tells}
use Rattle.lol_base.specs.BoolLaws.{and_parts, and_of, or_parts, or_of, same_bool}
use Rattle.lol_base.specs.MemberLaws.{Among, among_from_contains, contains_from_among}
use Rattle.lol_base.specs.PlaceLaws.{some_is, at_among, same_at, at_within, within_at}
use Rattle.lol_css.specs.declared.selector.Combinator.{Combinator}
use Rattle.lol_css.specs.declared.selector.Combinator.TheVariants.{Child, Descendant}
use Rattle.lol_instructions.specs.Tests.{Element}
use Rattle.lol_instructions.specs.Compounds.{Compound}
use Rattle.lol_instructions.specs.declared.instruction.Instruction as code
use Rattle.lol_program.specs.Paths.{Path, First, Then, Selectors}
use Rattle.lol_program.specs.Programs.{Instruction, Program, IsWithin, IsAt, HoldsAddresses, IsRangeOf, IsProgramOf, AreClosed, above, range_by}
use Rattle.lol_program.specs.ProgramViews.{instruction_shown, program_shown}
use Rattle.lol_program.specs.StepLaws.{one_front, one_step}
use Rattle.lol_program.specs.declared.program.Program as program
use Rattle.lol_machine.specs.Machines.{OpenItem, IsItem, AreItems}
use Rattle.lol_machine.specs.Matching.{matches, some_ancestor_passes}
use Rattle.lol_reasons.specs.Climbing.{StandsUnder, is_within, have_address, has_address, node_above_from, nearest_giving, range_in}
use Rattle.lol_reasons.specs.Witnesses.{given_at_nearest}
use Rattle.lol_reasons.specs.declared.witness.NodeAbove.{NodeAbove}

-- 1. Places in ranges

le_of : (a b : ℕ) → nat_le a b ≡ true → a ≤ b
le_of a b h = ⊎_elim (λ yes. yes.1) (λ no. absurd (true≢false (sym h ∙ no.0))) (leb_tells a b)

of_le : (a b : ℕ) → a ≤ b → nat_le a b ≡ true
of_le a b h = ⊎_elim (λ yes. yes.0) (λ no. absurd (omega (arith, h, no.1))) (leb_tells a b)

within_of : (address : ℕ) (r : Range ℕ) → is_within address r ≡ true → IsWithin address r
within_of address r h = let parts = and_parts _ _ h in (le_of r.start address parts.0, (Decides-ltb address r.end).0 parts.1)

of_within : (address : ℕ) (r : Range ℕ) → IsWithin address r → is_within address r ≡ true
of_within address r h = and_of _ _ (of_le r.start address h.0) ((Decides-ltb address r.end).1 h.1)

record Holding (ranges : List (Range ℕ)) (address : ℕ) : Type 0 where
  range : Range ℕ
  among : Among ranges range
  within : IsWithin address range

holding : (ranges : List (Range ℕ)) (address : ℕ) → have_address ranges address ≡ true → Holding ranges address
holding [] address h = cc
holding (r ∷ ranges) address h = by_part (or_parts (is_within address r) (have_address ranges address) h) (holding ranges address)
  where
    by_part : (is_within address r ≡ true) ⊎ (have_address ranges address ≡ true) → (have_address ranges address ≡ true → Holding ranges address) → Holding (r ∷ ranges) address
    by_part (inl here) later = record { range = r; among = inl refl; within = within_of address r here }
    by_part (inr there) later = let found = later there in record { range = found.range; among = inr found.among; within = found.within }

held : (ranges : List (Range ℕ)) (address : ℕ) (r : Range ℕ) → Among ranges r → IsWithin address r → have_address ranges address ≡ true
held [] address r h within = absurd h
held (x ∷ ranges) address r (inl same) within = or_of _ _ (inl (ap (is_within address) same ∙ of_within address r within))
held (x ∷ ranges) address r (inr h) within = or_of _ _ (inr (held ranges address r h within))

has_some : (o : Option (Range ℕ)) (address : ℕ) → has_address o address ≡ true → (r : Range ℕ) × (o ≡ Some r) × IsWithin address r
has_some None address h = cc
has_some (Some r) address h = (r, refl, within_of address r h)

some_has : (o : Option (Range ℕ)) (address : ℕ) (r : Range ℕ) → o ≡ Some r → IsWithin address r → has_address o address ≡ true
some_has o address r is within = ap (λ x. has_address x address) is ∙ of_within address r within

pub among_at : {A : Type 0} (xs : List A) (x : A) → Among xs x → (k : ℕ) × (slice_get xs k ≡ Some x)
among_at [] x h = absurd h
among_at (y ∷ xs) x (inl is) = (zero, ap Some is)
among_at (y ∷ xs) x (inr h) = let at = among_at xs x h in (suc at.0, at.1)

pub at_map : {A B : Type 0} (f : A → B) (xs : List A) (k : ℕ) (x : A) → slice_get xs k ≡ Some x → slice_get (map f xs) k ≡ Some (f x)
at_map f [] k x at = cc
at_map f (y ∷ xs) zero x at = ap (λ z. Some (f z)) (some_is at)
at_map f (y ∷ xs) (suc k) x at = at_map f xs k x at

pub map_at : {A B : Type 0} (f : A → B) (xs : List A) (k : ℕ) (y : B) → slice_get (map f xs) k ≡ Some y → (x : A) × (slice_get xs k ≡ Some x) × (f x ≡ y)
map_at f [] k y at = cc
map_at f (z ∷ xs) zero y at = (z, refl, some_is at)
map_at f (z ∷ xs) (suc k) y at = map_at f xs k y at

-- 2. The node above

module _ (s : Selectors) (paths : List Path) (p : Program) (closed : AreClosed s) (is : IsProgramOf s paths p) where
  under : (step : Combinator) (front : Path) (k : ℕ) (i : Instruction) (r : Range ℕ) → IsAt paths k front → IsAt p.instructions k i → range_by step i ≡ Some r
      → (address : ℕ) (path : Path) → IsWithin address r → IsAt paths address path → above path ≡ Some (front, step)
  under step front k i r at code_at gives address path within path_at =
      let found = (holds step (is.each k front i at code_at).jumps (is.each k front i at code_at).hereditary_jumps gives).members address in
      let there = found.0 within in
      ap above (same_at paths address path there.0 path_at there.1) ∙ there.2
    where
      holds : (step : Combinator) → IsRangeOf paths i.jumps (Some (front, Child)) → IsRangeOf paths i.hereditary_jumps (Some (front, Descendant)) → range_by step i ≡ Some r → HoldsAddresses paths r (Some (front, step))
      holds Child jumps hereditary gives = (subst (λ o. IsRangeOf paths o (Some (front, Child))) gives jumps).0
      holds Descendant jumps hereditary gives = (subst (λ o. IsRangeOf paths o (Some (front, Descendant))) gives hereditary).0

  pub record Linked (front : Path) (step : Combinator) (address : ℕ) : Type 0 where
    at : ℕ
    instruction : Instruction
    range : Range ℕ
    path_at : IsAt paths at front
    code_at : IsAt p.instructions at instruction
    gives : range_by step instruction ≡ Some range
    within : IsWithin address range

  pub linked : (front : Path) (step : Combinator) (c : Compound) (address : ℕ) → IsAt paths address (Then front step c) → Linked front step address
  linked front step c address at =
      let node = (is.same (Then front step c)).0 (contains_from_among paths (Then front step c) (at_among paths address (Then front step c) at)) in
      let above_it = among_at paths front (among_from_contains paths front ((is.same front).1 (closed.fronts front step c node))) in
      let code_at = within_at p.instructions above_it.0 (omega (arith, at_within paths above_it.0 front above_it.1, is.count)) in
      let each = is.each above_it.0 front code_at.0 above_it.1 code_at.1 in
      let ranged = by_step code_at.0 step each.jumps each.hereditary_jumps in
      let held = holds (range_by step code_at.0) refl ranged in
      record { at = above_it.0; instruction = code_at.0; range = held.0; path_at = above_it.1; code_at = code_at.1; gives = held.1; within = held.2 }
    where
      by_step : (i : Instruction) (step : Combinator) → IsRangeOf paths i.jumps (Some (front, Child)) → IsRangeOf paths i.hereditary_jumps (Some (front, Descendant)) → IsRangeOf paths (range_by step i) (Some (front, step))
      by_step i Child jumps hereditary = jumps
      by_step i Descendant jumps hereditary = hereditary

      holds : {given : Option (Range ℕ)} (o : Option (Range ℕ)) → given ≡ o → IsRangeOf paths o (Some (front, step)) → (r : Range ℕ) × (given ≡ Some r) × IsWithin address r
      holds None is none = absurd (none address (Then front step c) at refl)
      holds (Some r) is some = (r, is, (some.0.members address).1 (Then front step c, at, refl))

module _ (by_type : Bool) (address : ℕ) where
  abbrev shown : code.Instruction → Instruction
  shown i = instruction_shown by_type i

  -- an instruction that gives a range with the address
  record Gives (all : List code.Instruction) (a : NodeAbove) : Type 0 where
    instruction : code.Instruction
    at : IsAt all a.address instruction
    range : Range ℕ
    gives : range_by a.step (shown instruction) ≡ Some range
    within : IsWithin address range

  found_gives : (all instructions : List code.Instruction) (n : ℕ) → ((j : ℕ) (i : code.Instruction) → IsAt instructions j i → IsAt all (n + j) i)
      → (a : NodeAbove) → node_above_from n instructions address ≡ Some a → Gives all a
  found_gives all [] n inside a h = cc
  found_gives all (i ∷ instructions) n inside a h =
      by_tests (has_address i.associated_branch.jumps address) refl (has_address i.associated_branch.hereditary_jumps address) refl h
      (found_gives all instructions (n + 1) (λ j x at. subst (λ k. IsAt all k x) (omega arith) (inside (suc j) x at)) a)
    where
      here : IsAt all n i
      here = subst (λ k. IsAt all k i) (omega arith) (inside zero i refl)

      by_tests : (b : Bool) → has_address i.associated_branch.jumps address ≡ b → (d : Bool) → has_address i.associated_branch.hereditary_jumps address ≡ d
          → cond b (Some (record { address = n; step = Child })) (cond d (Some (record { address = n; step = Descendant })) (node_above_from (n + 1) instructions address)) ≡ Some a
          → (node_above_from (n + 1) instructions address ≡ Some a → Gives all a) → Gives all a
      by_tests true is d isnt h later =
          let r = has_some i.associated_branch.jumps address is in
          subst (Gives all) (some_is h) (record { instruction = i; at = here; range = r.0; gives = r.1; within = r.2 })
      by_tests false is true isnt h later =
          let r = has_some i.associated_branch.hereditary_jumps address isnt in
          subst (Gives all) (some_is h) (record { instruction = i; at = here; range = r.0; gives = r.1; within = r.2 })
      by_tests false is false isnt h later = later h

  not_missed : (instructions : List code.Instruction) (n k : ℕ) (i : code.Instruction) (step : Combinator) (r : Range ℕ) → IsAt instructions k i → range_by step (shown i) ≡ Some r → IsWithin address r
      → node_above_from n instructions address ≡ None → ⊥
  not_missed [] n k i step r at gives within h = cc
  not_missed (x ∷ instructions) n k i step r at gives within h =
      by_tests (has_address x.associated_branch.jumps address) refl (has_address x.associated_branch.hereditary_jumps address) refl h k at
      (λ k at. not_missed instructions (n + 1) k i step r at gives within)
    where
      here : (step : Combinator) → x ≡ i → range_by step (shown i) ≡ Some r → has_address x.associated_branch.jumps address ≡ false → has_address x.associated_branch.hereditary_jumps address ≡ false → ⊥
      here Child same gives no_jump no_hereditary = true≢false (sym (some_has x.associated_branch.jumps address r (ap (λ (y : code.Instruction). y.associated_branch.jumps) same ∙ gives) within) ∙ no_jump)
      here Descendant same gives no_jump no_hereditary = true≢false (sym (some_has x.associated_branch.hereditary_jumps address r (ap (λ (y : code.Instruction). y.associated_branch.hereditary_jumps) same ∙ gives) within) ∙ no_hereditary)

      by_tests : (b : Bool) → has_address x.associated_branch.jumps address ≡ b → (d : Bool) → has_address x.associated_branch.hereditary_jumps address ≡ d
          → cond b (Some (record { address = n; step = Child })) (cond d (Some (record { address = n; step = Descendant })) (node_above_from (n + 1) instructions address)) ≡ None
          → (k : ℕ) → IsAt (x ∷ instructions) k i → ((k : ℕ) → IsAt instructions k i → node_above_from (n + 1) instructions address ≡ None → ⊥) → ⊥
      by_tests true is d isnt h k at later = cc
      by_tests false is true isnt h k at later = cc
      by_tests false is false isnt h zero at later = here step (some_is at) gives is isnt
      by_tests false is false isnt h (suc k) at later = later k at h

module _ (s : Selectors) (paths : List Path) (code_program : program.Program) (closed : AreClosed s) (is : IsProgramOf s paths (program_shown code_program)) where
  abbrev instructions : List code.Instruction
  instructions = code_program.instructions.items

  abbrev by_type : Bool
  by_type = code_program.enable_nth_of_type

  -- the path of an instruction that gives the address
  front_of : (address : ℕ) (path : Path) → IsAt paths address path → (a : NodeAbove) → node_above_from 0 instructions address ≡ Some a
      → (front : Path) × IsAt paths a.address front × (above path ≡ Some (front, a.step))
  front_of address path at a h =
      let g = found_gives by_type address instructions instructions 0 (λ j i there. subst (λ k. IsAt instructions k i) (omega arith) there) a h in
      let code_at = at_map (instruction_shown by_type) instructions a.address g.instruction g.at in
      let front = within_at paths a.address (omega (arith, at_within (program_shown code_program).instructions a.address (instruction_shown by_type g.instruction) code_at, is.count)) in
      (front.0, front.1, under s paths (program_shown code_program) closed is a.step front.0 a.address (instruction_shown by_type g.instruction) g.range front.1 code_at g.gives address path g.within at)

  pub stands_under : (address : ℕ) (path : Path) → IsAt paths address path → StandsUnder paths path (node_above_from 0 instructions address)
  stands_under address (First c) at = none (node_above_from 0 instructions address) refl
    where
      none : (o : Option NodeAbove) → node_above_from 0 instructions address ≡ o → o ≡ None
      none None is = refl
      none (Some a) is = let f = front_of address (First c) at a is in absurd (cc)
  stands_under address (Then front step c) at = some (node_above_from 0 instructions address) refl
    where
      some : (o : Option NodeAbove) → node_above_from 0 instructions address ≡ o → StandsUnder paths (Then front step c) o
      some None none =
          let l = linked s paths (program_shown code_program) closed is front step c address at in
          let i = map_at (instruction_shown by_type) instructions l.at l.instruction l.code_at in
          absurd (not_missed by_type address instructions 0 l.at i.0 step l.range i.1 (ap (range_by step) i.2 ∙ l.gives) l.within none)
      some (Some a) found =
          let f = front_of address (Then front step c) at a found in
          (a, refl, subst (λ x. IsAt paths a.address x) (sym (one_front front f.0 step a.step f.2)) f.1, sym (one_step front f.0 step a.step f.2))

  -- a node that gives the address by a step stands above it
  pub stands_by : (address : ℕ) (path : Path) → IsAt paths address path → (a : NodeAbove) (i : code.Instruction) → IsAt instructions a.address i → has_address (range_in a.step i) address ≡ true
      → StandsUnder paths path (Some a)
  stands_by address path at a i i_at gives =
      let r = has_some (range_in a.step i) address gives in
      let code_at = at_map (instruction_shown by_type) instructions a.address i i_at in
      let front = within_at paths a.address (omega (arith, at_within (program_shown code_program).instructions a.address (instruction_shown by_type i) code_at, is.count)) in
      by_path path front.0 front.1
      (under s paths (program_shown code_program) closed is a.step front.0 a.address (instruction_shown by_type i) r.0 front.1 code_at (same_range a.step ∙ r.1) address path r.2 at)
    where
      same_range : (step : Combinator) → range_by step (instruction_shown by_type i) ≡ range_in step i
      same_range Child = refl
      same_range Descendant = refl

      by_path : (path : Path) (front : Path) → IsAt paths a.address front → above path ≡ Some (front, a.step) → StandsUnder paths path (Some a)
      by_path (First c) front front_at up = absurd (cc)
      by_path (Then mine step c) front front_at up =
          (a, refl, subst (λ x. IsAt paths a.address x) (sym (one_front mine front step a.step up)) front_at, sym (one_step mine front step a.step up))

  -- nothing stands above an entry point
  pub stands_at_root : (address : ℕ) (path : Path) → IsAt paths address path → IsWithin address code_program.entry_points → StandsUnder paths path None
  stands_at_root address path at within =
      let root = (is.entry.members address).0 within in
      by_path path (ap above (same_at paths address path root.0 at root.1) ∙ root.2)
    where
      by_path : (path : Path) → above path ≡ None → StandsUnder paths path None
      by_path (First c) up = refl
      by_path (Then front step c) up = absurd (cc)

-- 3. The element that a step leads to

-- a step was taken: so many items and elements are left, and the element's innermost witness goes on there
pub record Reached (paths : List Path) (p : Program) (front : Path) (give : Element → List Element → List ℕ) (items : List OpenItem) (around : List Element)
    (o : Option ℕ) (given : List ℕ) : Type 0 where
  pub inner : List OpenItem
  pub item : OpenItem
  pub outer : List OpenItem
  pub parts : items ≡ inner ++ item ∷ outer
  pub nearer : List Element
  pub element : Element
  pub beyond : List Element
  pub elements : around ≡ nearer ++ element ∷ beyond
  pub as_many : length beyond ≡ length outer
  pub found : o ≡ Some (length outer)
  pub are_items : AreItems paths p outer beyond
  pub fits : matches front element beyond ≡ true
  pub gives : given ≡ give element beyond

pub same_lengths : (paths : List Path) (p : Program) (items : List OpenItem) (elements : List Element) → AreItems paths p items elements → length elements ≡ length items
same_lengths paths p [] [] h = refl
same_lengths paths p [] (e ∷ outer) h = absurd h
same_lengths paths p (item ∷ items) [] h = absurd h
same_lengths paths p (item ∷ items) (e ∷ outer) h = ap suc (same_lengths paths p items outer h.1)

module _ (s : Selectors) (paths : List Path) (p : Program) (closed : AreClosed s) (is : IsProgramOf s paths p) (front : Path) (c : Compound) (address : ℕ) where
  -- an item gives the address exactly if the path before it matches its element
  gives_if : IsAt paths address (Then front Descendant c) → (item : OpenItem) (a : Element) (around : List Element) → IsItem paths p item a around
      → have_address item.hereditary_jumps address ≡ matches front a around
  gives_if at item a around h = same_bool _ _
      (λ has.
      let held_by = holding item.hereditary_jumps address has in
      let by = (h.hereditary_jumps.members held_by.range).0 (contains_from_among item.hereditary_jumps held_by.range held_by.among) in
      let same = one_front front by.1 Descendant Descendant (under s paths p closed is Descendant by.1 by.0 by.2 held_by.range by.3 by.4 by.5 address (Then front Descendant c) held_by.within at) in
      ap (λ f. matches f a around) same ∙ by.6)
      (λ fits.
      let l = linked s paths p closed is front Descendant c address at in
      held item.hereditary_jumps address l.range
      (among_from_contains item.hereditary_jumps l.range ((h.hereditary_jumps.members l.range).1 (l.at, front, l.instruction, l.path_at, l.code_at, l.gives, fits))) l.within)

  module _ (give : Element → List Element → List ℕ) where
    pub nearest_reached : IsAt paths address (Then front Descendant c) → (items : List OpenItem) (around : List Element) → AreItems paths p items around
        → some_ancestor_passes (λ a o. matches front a o) around ≡ true
        → Reached paths p front give items around (nearest_giving address items) (given_at_nearest (λ a o. matches front a o) give around)
    nearest_reached at [] [] h fits = cc
    nearest_reached at [] (a ∷ around) h fits = absurd h
    nearest_reached at (item ∷ items) [] h fits = absurd h
    nearest_reached at (item ∷ items) (a ∷ around) h fits =
        by_test (matches front a around) refl (have_address item.hereditary_jumps address) (gives_if at item a around h.0) fits (nearest_reached at items around h.1)
      where
        by_test : (b : Bool) → matches front a around ≡ b → (d : Bool) → d ≡ matches front a around
            → (b || some_ancestor_passes (λ a o. matches front a o) around) ≡ true
            → (some_ancestor_passes (λ a o. matches front a o) around ≡ true
            → Reached paths p front give items around (nearest_giving address items) (given_at_nearest (λ a o. matches front a o) give around))
            → Reached paths p front give (item ∷ items) (a ∷ around) (cond d (Some (length items)) (nearest_giving address items))
            (cond b (give a around) (given_at_nearest (λ a o. matches front a o) give around))
        by_test true is true same passes later = record {
          inner = [];
          item = item;
          outer = items;
          parts = refl;
          nearer = [];
          element = a;
          beyond = around;
          elements = refl;
          as_many = same_lengths paths p items around h.1;
          found = refl;
          are_items = h.1;
          fits = is;
          gives = refl;
        }
        by_test true is false same passes later = absurd (true≢false (sym (same ∙ is)))
        by_test false is true same passes later = absurd (true≢false (same ∙ is))
        by_test false is false same passes later =
            let r = later passes in
            record {
              inner = item ∷ r.inner;
              item = r.item;
              outer = r.outer;
              parts = ap (λ l. item ∷ l) r.parts;
              nearer = a ∷ r.nearer;
              element = r.element;
              beyond = r.beyond;
              elements = ap (λ l. a ∷ l) r.elements;
              as_many = r.as_many;
              found = r.found;
              are_items = r.are_items;
              fits = r.fits;
              gives = r.gives;
            }
