-- No report is longer than the ids that the nodes have.
use Rattle.lol_machine.proofs.Common.{◌≡◌, ◌≢◌, ℕ, ◌<◌, ◌≤◌, Bool, List, [], ◌∷◌, ◌++◌, length, flat_map, inl, inr, refl, sym, ap, ◌∙◌, subst, arith, length-map, map-map, Among, Distinct, among_back, among_either, among_front, among_from_contains, contains_from_among, at_among, within_at, ascending, among_matching_ids, matching_ids, matching_ids_ascend, has_content}
use Rattle.std.proofs.lemmas.List.{length-append}
use Rattle.std.proofs.lemmas.List.Concat.{length-flat_map}
use Rattle.std.proofs.lemmas.List.Sums.{sum-map}
use Rattle.std.specs.List.{sum, sum_by}
use Rattle.lol_base.specs.MemberLaws.{Parts, distinct_from_pairs, flat_map_among, parts_at}
use Rattle.lol_instructions.specs.declared.instruction.Instruction.{Instruction}
use Rattle.lol_program.specs.Programs as programs
use Rattle.lol_program.specs.ProgramViews.{code_of, instruction_shown, program_shown}
use Rattle.lol_machine.specs.Answers.{Match, report}
use Rattle.lol_machine.specs.ReportRoom.{ReportsAreFew}
use Rattle.lol_machine.proofs.Held.{programs_have_each_node}

-- 1. Lists each of whose members is among others

module _ {A : Type 0} where
  pub no_longer : (xs ys : List A) → Distinct xs → ((x : A) → Among xs x → Among ys x) → length xs ≤ length ys
  no_longer [] ys d to = omega arith
  no_longer (x ∷ xs) ys d to =
      let parts = parts_at ys x (to x (inl refl)) in
      let rest = no_longer xs (parts.front ++ parts.back) d.1 (λ y h. others parts y h (subst (λ zs. Among zs y) parts.is (to y (inr h)))) in
      let count = ap length parts.is in
      omega (arith, rest, count, length-append parts.front (x ∷ parts.back), length-append parts.front parts.back)
    where
      others : (parts : Parts ys x) (y : A) → Among xs y → Among (parts.front ++ x ∷ parts.back) y → Among (parts.front ++ parts.back) y
      others parts y h a = elim (among_either parts.front (x ∷ parts.back) y a) [
        | inl in_front ↦ among_front parts.front parts.back y in_front
        | inr in_back ↦ elim in_back [ inl is ↦ absurd (d.0 (subst (Among xs) (sym is) h)) | inr later ↦ among_back parts.front parts.back y later ]
      ]

-- 2. Reports

abbrev ids_of : programs.Instruction → List ℕ
ids_of i = i.ids

count_ids : (by_type : Bool) (instructions : List Instruction) → length (flat_map ids_of (code_of by_type instructions)) ≡ sum_by (λ i. length (ascending i.associated_branch.matched_ids)) instructions
count_ids by_type instructions =
    length-flat_map ids_of (code_of by_type instructions)
    ∙ (sym (sum-map (λ (i : programs.Instruction). length i.ids) (code_of by_type instructions))
    ∙ (ap sum (map-map (λ (i : programs.Instruction). length i.ids) (instruction_shown by_type) instructions) ∙ sum-map _ instructions))

pub reports_are_few : {E : Type 0} → ReportsAreFew E
reports_are_few s esi vm events h esi' e outer =
    let p = program_shown vm.program in
    let ids = matching_ids s.pairs e outer in
    let few = no_longer ids (flat_map ids_of p.instructions) (distinct_from_pairs ids (λ i j d below within. differ _ _ (matching_ids_ascend e outer s.pairs i j d below within))) listed in
    let count = count_ids p.by_type vm.program.instructions.items in
    let same : length (report s esi' e outer) ≡ length ids = length-map {B = Match} ids (λ (id : ℕ). record { id = id; with_content = has_content esi' e.tag }) in
    omega (arith, few, count, same)
  where
    differ : (m n : ℕ) → m < n → m ≢ n
    differ m n less same = absurd (omega (arith, less, same))

    listed : (id : ℕ) → Among (matching_ids s.pairs e outer) id → Among (flat_map ids_of (program_shown vm.program).instructions) id
    listed id a =
        let p = program_shown vm.program in
        let m = among_matching_ids e outer s.pairs id a in
        let pair = contains_from_among s.pairs (m.0, id) m.1 in
        let node = (programs_have_each_node s h.paths p h.closed h.standing.program).address m.0 (h.closed.paths m.0 id pair) in
        let i = within_at p.instructions node.0 node.2 in
        flat_map_among ids_of p.instructions i.0 id (at_among p.instructions node.0 i.0 i.1)
        (among_from_contains i.0.ids id (((h.standing.program.each node.0 m.0 i.0 node.1 i.1).ids id).1 pair))
