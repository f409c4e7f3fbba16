-- How far a layout has come.
use Rattle.std.specs.Prelude.{ℕ, ◌+◌, ◌<◌, ◌≤◌, ◌≡◌, ◌≢◌, suc, Bool, List, length, map, slice_get, slice_set, Option, Some}
use Rattle.lol_program.specs.Forest.{Forest, none, more, size}
use Rattle.lol_program.specs.Layouts.{width, instruction_of, any_by_type}
use Rattle.lol_program.specs.Compiling.{Serves, AreCompiledTests}
use Rattle.lol_program.specs.Programs.{Instruction}
use Rattle.lol_program.specs.ProgramViews.{code_of}
use Rattle.std.specs.declared.ops.Range.{Range}
use Rattle.lol_memory.specs.Ids.{Ids}
use Rattle.lol_instructions.specs.Compounds.{Compound}
use Rattle.lol_instructions.specs.Compiled.{tests_in}
use Rattle.lol_instructions.specs.Keys.{key_tests}
use Rattle.lol_instructions.specs.CompiledKeys.{compiled_key_test}
use Rattle.lol_instructions.specs.declared.instruction.Instruction as code

-- how many nodes there are under the roots
abbrev pub under : Forest → ℕ
under none = 0
under (more c ids children descendants rest) = size children + (size descendants + under rest)

-- Siblings stand from an address on, and what is under them from a free one.
abbrev pub Laid : List Instruction → ℕ → ℕ → Forest → Type 0
Laid instructions address free none = Unit {0}
Laid instructions address free (more c ids children descendants rest) =
    (slice_get instructions address ≡ Some (instruction_of c ids children descendants free))
    × (Laid instructions free (free + width children) children
    × (Laid instructions (free + size children) (free + size children + width descendants) descendants
    × Laid instructions (suc address) (free + (size children + size descendants)) rest))

-- so they stand wherever children are counted by type if one of them asks for that
abbrev pub AreLaid : List code.Instruction → ℕ → ℕ → Forest → Type 0
AreLaid instructions address free f = (by_type : Bool) → Serves by_type (any_by_type f) → Laid (code_of by_type instructions) address free f

-- nothing below low, or from high on, differs
pub record SameOutside {A : Type 0} (low high : ℕ) (old new : List A) : Type 0 where
  pub count : length new ≡ length old
  pub below : (k : ℕ) → k < low → slice_get new k ≡ slice_get old k
  pub above : (k : ℕ) → high ≤ k → slice_get new k ≡ slice_get old k

-- nor does it, but at one address
pub record SameElsewhere {A : Type 0} (address low high : ℕ) (old new : List A) : Type 0 where
  pub count : length new ≡ length old
  pub below : (k : ℕ) → k < low → k ≢ address → slice_get new k ≡ slice_get old k
  pub above : (k : ℕ) → high ≤ k → slice_get new k ≡ slice_get old k

-- an instruction of these ids and tests stands at the address, and all others as before
pub record IsPlaced (address : ℕ) (ids : Ids) (compound : Compound) (old new : List code.Instruction) : Type 0 where
  pub instruction : code.Instruction
  pub is : new ≡ slice_set old address instruction
  pub ids_are : instruction.associated_branch.matched_ids ≡ ids
  pub tests_are : AreCompiledTests (tests_in instruction.predicate) compound
  pub keys_are : map compiled_key_test (tests_in instruction.predicate) ≡ key_tests compound

-- the instruction at the address has these ranges, and all else is as before
pub record HasJumps (address : ℕ) (jumps hereditary_jumps : Option (Range ℕ)) (old new : List code.Instruction) : Type 0 where
  pub instruction : code.Instruction
  pub is : new ≡ slice_set old address instruction
  pub jumps_are : instruction.associated_branch.jumps ≡ jumps
  pub hereditary_are : instruction.associated_branch.hereditary_jumps ≡ hereditary_jumps
  pub kept : (i : code.Instruction) → slice_get old address ≡ Some i
      → (instruction.predicate ≡ i.predicate) × (instruction.associated_branch.matched_ids ≡ i.associated_branch.matched_ids)
