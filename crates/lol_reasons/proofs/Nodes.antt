-- The node that has an id.
use Rattle.std.proofs.Common.{◌≡◌, ℕ, zero, suc, ◌+◌, Bool, true, false, cond, ◌⊎◌, true≢false, List, [], ◌∷◌, Option, Some, None, Contains, inl, inr, refl, sym, ap, ◌∙◌, subst, arith}
use Rattle.std.specs.Prelude.{◌==◌}
use Rattle.std.proofs.lemmas.Bool.Decides.{Decides-eqb}
use Rattle.lol_base.specs.BoolLaws.{or_parts, or_of}
use Rattle.lol_base.specs.MemberLaws.{Among, among_from_contains, contains_from_among}
use Rattle.lol_base.specs.PlaceLaws.{some_is, at_within, within_at}
use Rattle.lol_memory.specs.Ids.{ascending}
use Rattle.lol_instructions.specs.declared.instruction.Instruction as code
use Rattle.lol_program.specs.Paths.{Path, Selectors}
use Rattle.lol_program.specs.Programs.{Instruction, IsAt, IsProgramOf, AreClosed}
use Rattle.lol_program.specs.ProgramViews.{instruction_shown, program_shown}
use Rattle.lol_program.specs.declared.program.Program as program
use Rattle.lol_reasons.specs.Climbing.{has_number, node_with_from}
use Rattle.lol_reasons.specs.Matched.{IsAlone}
use Rattle.lol_reasons.proofs.ClimbingLemmas.{among_at, at_map, map_at}

pub among_if : (ns : List ℕ) (n : ℕ) → has_number ns n ≡ true → Among ns n
among_if [] n h = cc
among_if (m ∷ ns) n h = by_part (or_parts (m == n) (has_number ns n) h) (among_if ns n)
  where
    by_part : ((m == n) ≡ true) ⊎ (has_number ns n ≡ true) → (has_number ns n ≡ true → Among ns n) → Among (m ∷ ns) n
    by_part (inl here) later = inl ((Decides-eqb m n).0 here)
    by_part (inr there) later = inr (later there)

pub if_among : (ns : List ℕ) (n : ℕ) → Among ns n → has_number ns n ≡ true
if_among [] n h = absurd h
if_among (m ∷ ns) n (inl same) = or_of _ _ (inl ((Decides-eqb m n).1 same))
if_among (m ∷ ns) n (inr h) = or_of _ _ (inr (if_among ns n h))

abbrev has : code.Instruction → ℕ → Bool
has i id = has_number (ascending i.associated_branch.matched_ids) id

module _ (id : ℕ) where
  found_with : (all instructions : List code.Instruction) (n : ℕ) → ((j : ℕ) (i : code.Instruction) → IsAt instructions j i → IsAt all (n + j) i)
      → (k : ℕ) → node_with_from n instructions id ≡ Some k → (i : code.Instruction) × IsAt all k i × (has i id ≡ true)
  found_with all [] n inside k h = cc
  found_with all (i ∷ instructions) n inside k h =
      by_test (has i id) refl h (found_with all instructions (n + 1) (λ j x at. subst (λ m. IsAt all m x) (omega arith) (inside (suc j) x at)) k)
    where
      here : IsAt all n i
      here = subst (λ m. IsAt all m i) (omega arith) (inside zero i refl)

      by_test : (b : Bool) → has i id ≡ b → cond b (Some n) (node_with_from (n + 1) instructions id) ≡ Some k
          → (node_with_from (n + 1) instructions id ≡ Some k → (i : code.Instruction) × IsAt all k i × (has i id ≡ true)) → (i : code.Instruction) × IsAt all k i × (has i id ≡ true)
      by_test true is h later = (i, subst (λ m. IsAt all m i) (some_is h) here, is)
      by_test false is h later = later h

  missed_none : (instructions : List code.Instruction) (n k : ℕ) (i : code.Instruction) → IsAt instructions k i → has i id ≡ true → node_with_from n instructions id ≡ None → ⊥
  missed_none [] n k i at is h = cc
  missed_none (x ∷ instructions) n k i at is h = by_test (has x id) refl h k at (λ k at. missed_none instructions (n + 1) k i at is)
    where
      by_test : (b : Bool) → has x id ≡ b → cond b (Some n) (node_with_from (n + 1) instructions id) ≡ None
          → (k : ℕ) → IsAt (x ∷ instructions) k i → ((k : ℕ) → IsAt instructions k i → node_with_from (n + 1) instructions id ≡ None → ⊥) → ⊥
      by_test true has_it h k at later = cc
      by_test false has_it h zero at later = true≢false (sym is ∙ ap (λ y. has y id) (sym (some_is at)) ∙ has_it)
      by_test false has_it h (suc k) at later = later k at h

module _ (s : Selectors) (paths : List Path) (code_program : program.Program) (closed : AreClosed s) (is : IsProgramOf s paths (program_shown code_program)) (path : Path) (id : ℕ)
    (alone : IsAlone s path id) where
  -- the address of a node with the id is that of its path
  pub holds_at : (k : ℕ) (i : code.Instruction) → IsAt code_program.instructions.items k i → has i id ≡ true → IsAt paths k path
  holds_at k i at has_it =
      let code_at = at_map (instruction_shown code_program.enable_nth_of_type) code_program.instructions.items k i at in
      let own = within_at paths k (omega (arith, at_within (program_shown code_program).instructions k (instruction_shown code_program.enable_nth_of_type i) code_at, is.count)) in
      let ids = (is.each k own.0 (instruction_shown code_program.enable_nth_of_type i) own.1 code_at).ids id in
      subst (IsAt paths k) (alone.only own.0 (ids.0 (contains_from_among _ id (among_if _ id has_it)))) own.1

  has_address_of : (k : ℕ) → node_with_from 0 code_program.instructions.items id ≡ Some k → IsAt paths k path
  has_address_of k h =
      let f = found_with id code_program.instructions.items code_program.instructions.items 0 (λ j i there. subst (λ m. IsAt code_program.instructions.items m i) (omega arith) there) k h in
      holds_at k f.0 f.1 f.2

  -- some node has it
  has_one : node_with_from 0 code_program.instructions.items id ≡ None → ⊥
  has_one none =
      let node = (is.same path).1 (closed.paths path id alone.added) in
      let at = among_at paths path (among_from_contains paths path node) in
      let code_at = within_at (program_shown code_program).instructions at.0 (omega (arith, at_within paths at.0 path at.1, is.count)) in
      let i = map_at (instruction_shown code_program.enable_nth_of_type) code_program.instructions.items at.0 code_at.0 code_at.1 in
      let ids = (is.each at.0 path code_at.0 at.1 code_at.1).ids id in
      let listed = subst (λ (x : Instruction). Contains x.ids id) (sym i.2) (ids.1 alone.added) in
      missed_none id code_program.instructions.items 0 at.0 i.0 i.1 (if_among _ id (among_from_contains _ id listed)) none

  pub node_is : (o : Option ℕ) → o ≡ node_with_from 0 code_program.instructions.items id → (k : ℕ) × (o ≡ Some k) × IsAt paths k path
  node_is None is_none = absurd (has_one (sym is_none))
  node_is (Some k) is_some = (k, refl, has_address_of k (sym is_some))
