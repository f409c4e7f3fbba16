-- What instructions give that are run one after the other.
use Rattle.std.specs.Prelude.{ℕ, ◌+◌, Bool, ◌≤◌, List, length, All, flat_map, ◌<◌, ◌^◌, count_by, Option, Some, None}
use Rattle.std.specs.List.{position_from, slice_range}
use Rattle.std.specs.declared.ops.Range.{Range}
use Rattle.lol_memory.specs.Ids.{Ids}
use Rattle.lol_instructions.specs.Attributes.{TagAttributes}
use Rattle.lol_instructions.specs.Compiled.{Sight, predicate_value, predicate_holds}
use Rattle.lol_instructions.specs.Compounds.{is_open}
use Rattle.lol_instructions.specs.Tries.{names_counted, attributes_counted}
use Rattle.lol_instructions.specs.declared.tries.Tries.{Tries}
use Rattle.lol_instructions.specs.declared.instruction.Instruction.{Instruction}
use Rattle.lol_instructions.specs.declared.name_value.NameValue.{NameValue}
use Rattle.lol_stack.specs.Contexts.{with_branch, NeedsNoMemory}
use Rattle.lol_machine.specs.Outcomes.{given_by_names, given_with_attributes}
use Rattle.lol_stack.specs.declared.execution_ctx.ExecutionCtx.{ExecutionCtx}

-- the value by names of an instruction
abbrev pub value_seen : Sight → Instruction → NameValue
value_seen s i = predicate_value i.predicate s

abbrev pub holds_seen : Sight → TagAttributes → Instruction → Bool
holds_seen s a i = predicate_holds i.predicate s a

-- how many of some instructions are open
abbrev pub open_among : Sight → List Instruction → ℕ
open_among s instructions = count_by (λ i. is_open (value_seen s i)) instructions

-- the index of the first open one, where the first has the index `at`
abbrev pub first_open_from : Sight → ℕ → List Instruction → Option ℕ
first_open_from s at instructions = position_from (λ i. is_open (value_seen s i)) at instructions

-- how many are tried by names: those up to a stop, or all of so many
abbrev pub tried_until : Option ℕ → ℕ → ℕ
tried_until None n = n
tried_until (Some at) n = at + 1

-- the instructions of a range
abbrev pub instructions_at : List Instruction → Range ℕ → List Instruction
instructions_at instructions r = slice_range instructions r.start r.end

-- the instructions of ranges, one range after the other
abbrev pub all_at : List Instruction → List (Range ℕ) → List Instruction
all_at instructions ranges = flat_map (instructions_at instructions) ranges

abbrev pub IsInsideOf : List Instruction → Range ℕ → Type 0
IsInsideOf instructions r = (r.start ≤ r.end) × (r.end ≤ length instructions)

-- so many more tries can be counted
abbrev pub HasTriesLeft : Tries → ℕ → Type 0
HasTriesLeft tries n = (names_counted tries + n < 2 ^ 64) × (attributes_counted tries + n < 2 ^ 64)

-- Instructions that can be run: the ranges are inside, and so many tries can be counted.
pub record AreRunnable (instructions : List Instruction) (ranges : List (Range ℕ)) (tries : Tries) : Type 0 where
  pub inside : All (IsInsideOf instructions) ranges
  pub room : HasTriesLeft tries (length (all_at instructions ranges))

-- what each of the instructions gives needs no memory
abbrev pub NeedNoMemory : Bool → List Instruction → Type 0
NeedNoMemory content instructions = All (λ i. NeedsNoMemory content i.associated_branch) instructions

module _ {E : Type 0} (ids : E → Ids) (with_ids : E → Ids → E) where
  abbrev pub give_branch : Instruction → ExecutionCtx E → ExecutionCtx E
  give_branch i ctx = with_branch ids with_ids ctx i.associated_branch

  -- What is gathered by names, up to the first open one.
  abbrev pub gathered_by_names : Sight → ExecutionCtx E → List Instruction → ExecutionCtx E
  gathered_by_names s ctx instructions = given_by_names give_branch (value_seen s) ctx instructions

  -- What is gathered with attributes.
  abbrev pub gathered_with_attributes : Sight → TagAttributes → ExecutionCtx E → List Instruction → ExecutionCtx E
  gathered_with_attributes s a ctx instructions = given_with_attributes give_branch (holds_seen s a) ctx instructions
