-- Instructions by their addresses.
use Rattle.lol_machine.proofs.Common.{◌≡◌, ℕ, zero, suc, ◌+◌, ◌-◌, ◌≤◌, Bool, List, [], ◌∷◌, ◌++◌, length, map, take, drop, Option, Some, inl, inr, refl, sym, ap, ◌∙◌, subst, arith, All, slice_get, count_by, range_with_len, position_from, Range, map-append, map-map, length-map, Among, contains_from_among, within_at, Ids, tag_attributes, Sight, sight_of, is_open, addresses, all_addresses, Element, Gathers, Context, instruction_holds, instruction_value, is_open_at, branch, give_if_there, given_by_names, given_with_attributes, run, IsInsideOf, instructions_at, all_at, value_seen, holds_seen, open_among, first_open_from, give_branch, gathered_by_names, gathered_with_attributes, ExecutionCtx}
use Rattle.std.specs.List.{drop-map, take-map}
use Rattle.lol_program.specs.Programs as programs
use Rattle.lol_program.specs.Programs.{Program}
use Rattle.lol_program.specs.ProgramViews.{instruction_shown, program_shown}
use Rattle.lol_program.specs.declared.program.Program as code
use Rattle.lol_instructions.specs.declared.instruction.Instruction.{Instruction}
use Rattle.lol_machine.proofs.GatheringLemmas.{branches_gather}
use Rattle.lol_machine.specs.OutcomeLaws.{attributes-map, attributes_keep, count_by-map, names-map, names_keep, position_from-map}
use Rattle.lol_machine.proofs.Stops.{context_by_names}
use Rattle.std.proofs.lemmas.List.Elements.{All-contains}

-- 1. What stands at the addresses of ranges

dropped_at : {A : Type 0} (ys : List A) (a : ℕ) (y : A) → slice_get ys a ≡ Some y → drop a ys ≡ y ∷ drop (suc a) ys
dropped_at [] a y at = cc
dropped_at (x ∷ ys) zero y at = let same : x ≡ y = cc in ap (λ z. z ∷ ys) same
dropped_at (x ∷ ys) (suc a) y at = dropped_at ys a y at

at_range : {A : Type 0} (ys : List A) (a n : ℕ) → a + n ≤ length ys → map (slice_get ys) (range_with_len a n) ≡ map Some (take n (drop a ys))
at_range ys a zero within = refl
at_range ys a (suc n) within =
    let y = within_at ys a (omega (arith, within)) in
    let next : suc a ≡ a + 1 = omega arith in
    (λ i. y.1 i ∷ at_range ys (a + 1) n (omega (arith, within)) i)
    ∙ (ap (λ k. Some y.0 ∷ map Some (take n (drop k ys))) (sym next) ∙ sym (ap (λ zs. map Some (take (suc n) zs)) (dropped_at ys a y.0 y.1)))

-- 2. Runs over the addresses of ranges are runs over their instructions

module _ (prog : code.Program) where
  abbrev p : Program
  p = program_shown prog

  abbrev instructions : List Instruction
  instructions = prog.instructions.items

  abbrev shown : Instruction → programs.Instruction
  shown i = instruction_shown p.by_type i

  at_one : (r : Range ℕ) → IsInsideOf instructions r → map (slice_get p.instructions) (addresses r) ≡ map (λ i. Some (shown i)) (instructions_at instructions r)
  at_one r inside =
      let count = length-map instructions shown in
      at_range p.instructions r.start (r.end - r.start) (omega (arith, inside.0, inside.1, count))
      ∙ (ap (λ xs. map Some (take (r.end - r.start) xs)) (drop-map shown r.start instructions)
      ∙ (ap (map Some) (take-map shown (r.end - r.start) (drop r.start instructions)) ∙ map-map Some shown (take (r.end - r.start) (drop r.start instructions))))

  at_all : (ranges : List (Range ℕ)) → ((r : Range ℕ) → Among ranges r → IsInsideOf instructions r) → map (slice_get p.instructions) (all_addresses ranges) ≡ map (λ i. Some (shown i)) (all_at instructions ranges)
  at_all [] inside = refl
  at_all (r ∷ ranges) inside =
      map-append (slice_get p.instructions) (addresses r) (all_addresses ranges)
      ∙ ((λ i. at_one r (inside r (inl refl)) i ++ at_all ranges (λ q a. inside q (inr a)) i) ∙ sym (map-append (λ i. Some (shown i)) (instructions_at instructions r) (all_at instructions ranges)))

  module _ (e : Element) (ranges : List (Range ℕ)) (inside : All (IsInsideOf instructions) ranges) where
    abbrev ps : List ℕ
    ps = all_addresses ranges

    abbrev is : List Instruction
    is = all_at instructions ranges

    abbrev s : Sight
    s = sight_of p.by_type e

    at : map (slice_get p.instructions) ps ≡ map (λ i. Some (shown i)) is
    at = at_all ranges (λ r a. All-contains (IsInsideOf instructions) ranges r inside (contains_from_among ranges r a))

    abbrev is_open_one : Option programs.Instruction → Bool
    is_open_one o = is_open (instruction_value e o)

    pub same_count : length is ≡ length ps
    same_count = sym (length-map is (λ i. Some (shown i))) ∙ (sym (ap length at) ∙ length-map ps (slice_get p.instructions))

    pub same_stop : first_open_from s 0 is ≡ position_from (is_open_at p e) 0 ps
    same_stop =
        sym (position_from-map (λ i. Some (shown i)) is_open_one 0 is) ∙ (sym (ap (position_from is_open_one 0) at) ∙ position_from-map (slice_get p.instructions) is_open_one 0 ps)

    pub same_opens : open_among s is ≡ count_by (is_open_at p e) ps
    same_opens = sym (count_by-map (λ i. Some (shown i)) is_open_one is) ∙ (sym (ap (count_by is_open_one) at) ∙ count_by-map (slice_get p.instructions) is_open_one ps)

    -- what is gathered with attributes, and what by names up to a stop, is what the addresses give
    module _ {E : Type 0} (ids_of : E → Ids) (with_ids : E → Ids → E) (keeps : (e : E) (w : Ids) → ids_of (with_ids e w) ≡ w) (content : Bool) where
      abbrev Alike : ExecutionCtx E → Context → Type 0
      Alike ctx context = Gathers ids_of ctx.stack_item context × (ctx.with_content ≡ content)

      abbrev give_shown : Instruction → Context → Context
      give_shown i context = branch content context (shown i)

      branch_alike : (i : Instruction) (ctx : ExecutionCtx E) (context : Context) → Alike ctx context → Alike (give_branch ids_of with_ids i ctx) (give_shown i context)
      branch_alike i ctx context h =
          (subst (λ b. Gathers ids_of (give_branch ids_of with_ids i ctx).stack_item (branch b context (shown i))) h.1 (branches_gather ids_of with_ids keeps ctx context i p.by_type h.0), h.1)

      module _ (ctx : ExecutionCtx E) (context : Context) (has : Alike ctx context) where
        pub attributes_gather : Gathers ids_of (gathered_with_attributes ids_of with_ids s (tag_attributes e.tag) ctx is).stack_item (run p content e context ps)
        attributes_gather =
            let holds = holds_seen s (tag_attributes e.tag) in
            subst (Gathers ids_of (gathered_with_attributes ids_of with_ids s (tag_attributes e.tag) ctx is).stack_item)
            (sym (ap (given_with_attributes (give_if_there content) (instruction_holds e) context) at ∙ attributes-map (give_if_there content) (λ i. Some (shown i)) (instruction_holds e) context is))
            (attributes_keep (give_branch ids_of with_ids) give_shown Alike branch_alike holds ctx context is has).0

        pub names_gather : Gathers ids_of (gathered_by_names ids_of with_ids s ctx is).stack_item (context_by_names p content e context ps)
        names_gather =
            subst (Gathers ids_of (gathered_by_names ids_of with_ids s ctx is).stack_item)
            (sym (ap (given_by_names (give_if_there content) (instruction_value e) context) at ∙ names-map (give_if_there content) (λ i. Some (shown i)) (instruction_value e) context is))
            (names_keep (give_branch ids_of with_ids) give_shown Alike branch_alike (value_seen s) ctx context is has).0
