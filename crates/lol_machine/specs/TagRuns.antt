-- What a start tag is run through, and where its run goes on.
use Rattle.std.specs.Prelude.{ℕ, ◌+◌, ◌-◌, ◌≡◌, ◌≤◌, ◌<◌, slice_get, get_or, take, drop, map, List, [], ◌∷◌, ◌++◌, length, Option, Some, None}
use Rattle.std.specs.Option.{option_map}
use Rattle.std.specs.declared.ops.Range.{Range}
use Rattle.lol_base.specs.LocalNames.{Name}
use Rattle.lol_memory.specs.Ids.{Ids}
use Rattle.lol_instructions.specs.Attributes.{TagAttributes}
use Rattle.lol_instructions.specs.Compiled.{Sight}
use Rattle.lol_instructions.specs.Tries.{names_counted, attributes_counted}
use Rattle.lol_instructions.specs.declared.instruction.Instruction.{Instruction}
use Rattle.lol_program.specs.declared.program.Program.{Program}
use Rattle.lol_instructions.specs.declared.tries.Tries.{Tries}
use Rattle.lol_machine.specs.InstructionRuns.{all_at, instructions_at, open_among, first_open_from, tried_until, gathered_by_names, gathered_with_attributes}
use Rattle.lol_stack.specs.WithRange.{no_range}
use Rattle.lol_stack.specs.Stacks.{items_in, active_in, last_count, typed_count}
use Rattle.lol_stack.specs.declared.execution_ctx.ExecutionCtx.{ExecutionCtx}
use Rattle.lol_machine.specs.declared.tag_runs.Stop.{Stop}
use Rattle.lol_stack.specs.declared.stack_item.StackItemOf.{StackItemOf}
use Rattle.lol_stack.specs.declared.stack.StackOf.{StackOf}
use Rattle.lol_stack.specs.declared.stack.StackNames.{StackNames}
use Rattle.lol_machine.specs.SparedRuns.{singles}
use Rattle.lol_machine.specs.declared.tag_runs.AllRanges.{AllRanges}
use Rattle.lol_machine.specs.declared.tag_runs.LeftRanges.{LeftRanges}
use Rattle.lol_machine.specs.declared.tag_runs.RecoveryPoint.{RecoveryPoint}
use Rattle.lol_machine.specs.declared.tag_runs.RecoveryPoint.TheVariants.{AtOnce, At}

-- the ranges of active ones
abbrev pub ranges_of_active : List (Range ℕ × ℕ) → List (Range ℕ)
ranges_of_active active = map (λ a. a.0) active

-- the entry points, the last open element's jumps, and the active hereditary jumps, in the order in which they are run
abbrev pub tag_ranges : Range ℕ → List (Range ℕ) → List (Range ℕ) → List (Range ℕ)
tag_ranges entry jumps active = entry ∷ (jumps ++ active)

-- those of what the code runs
abbrev pub all_ranges : AllRanges → List (Range ℕ)
all_ranges r = tag_ranges r.entry_points.now r.jumps.now (ranges_of_active r.hereditary_jumps.now)

abbrev pub left_ranges : LeftRanges → List (Range ℕ)
left_ranges r = singles r.addresses.now

-- the number of a stop's instruction among all instructions of ranges
abbrev pub number_of : List Instruction → List (Range ℕ) → Stop → ℕ
number_of instructions ranges stop = length (all_at instructions (take stop.range ranges)) + stop.offset

-- the range and the instruction of a stop are there
abbrev pub IsStopIn : List Instruction → List (Range ℕ) → Stop → Type 0
IsStopIn instructions ranges stop =
    (stop.range < length ranges) × (stop.offset < length (instructions_at instructions (get_or ranges stop.range no_range)))

-- what is left of a stop's range
abbrev pub rest_of : List (Range ℕ) → Stop → Range ℕ
rest_of ranges stop =
    record { start = (get_or ranges stop.range no_range).start + stop.offset; end = (get_or ranges stop.range no_range).end }

-- what is left of ranges from a stop on
abbrev pub ranges_from : List (Range ℕ) → Stop → List (Range ℕ)
ranges_from ranges stop = rest_of ranges stop ∷ drop (stop.range + 1) ranges

abbrev pub IsPointIn : List Instruction → List (Range ℕ) → RecoveryPoint → Type 0
IsPointIn instructions ranges AtOnce = Unit {0}
IsPointIn instructions ranges (At stop) = IsStopIn instructions ranges stop

-- what is left from a recovery point on
abbrev pub ranges_left : List (Range ℕ) → RecoveryPoint → List (Range ℕ)
ranges_left ranges AtOnce = ranges
ranges_left ranges (At stop) = ranges_from ranges stop

-- how many instructions were tried already where a run goes on
abbrev pub tried_at : RecoveryPoint → ℕ
tried_at AtOnce = 0
tried_at (At stop) = 1

-- what was found where a run stopped, if it did
abbrev pub IsStopOf : List Instruction → List (Range ℕ) → Option Stop → Type 0
IsStopOf instructions ranges None = Unit {0}
IsStopOf instructions ranges (Some stop) = IsStopIn instructions ranges stop

module _ {E : Type 0} (ids : E → Ids) (with_ids : E → Ids → E) (s : Sight) (instructions : List Instruction) (ranges : List (Range ℕ)) (old new : ExecutionCtx E) (before after : Tries) where
  -- Ranges were tried by names, up to a stop.
  pub record AreTried (stop : Option Stop) : Type 0 where
    pub stops : option_map (number_of instructions ranges) stop ≡ first_open_from s 0 (all_at instructions ranges)
    pub within : IsStopOf instructions ranges stop
    pub gathered : new ≡ gathered_by_names ids with_ids s old (all_at instructions ranges)
    pub names : names_counted after ≡ names_counted before + tried_until (option_map (number_of instructions ranges) stop) (length (all_at instructions ranges))

  -- Ranges were run with attributes; so many of their instructions were tried by names before.
  pub record AreExecuted (a : TagAttributes) (tried : ℕ) : Type 0 where
    pub gathered : new ≡ gathered_with_attributes ids with_ids s a old (all_at instructions ranges)
    pub names : names_counted after + tried ≡ names_counted before + length (all_at instructions ranges)
    pub attributes : attributes_counted after ≡ attributes_counted before + open_among s (all_at instructions ranges)

-- At most so many tries were counted as ranges ask for, refused or not; so many of their instructions were tried by names before.
pub record AreWithin (s : Sight) (instructions : List Instruction) (ranges : List (Range ℕ)) (before after : Tries) (tried : ℕ) : Type 0 where
  pub names : names_counted after + tried ≤ names_counted before + length (all_at instructions ranges)
  pub attributes : attributes_counted after ≤ attributes_counted before + open_among s (all_at instructions ranges)

-- Of a program and a stack

module _ {E : Type 0} where
  -- where the nodes for the children of an element stand
  abbrev pub jumps_of_item : Option (StackItemOf Name E) → List (Range ℕ)
  jumps_of_item None = []
  jumps_of_item (Some item) = item.jumps

  -- those of the last open element
  abbrev pub jumps_in : StackOf Name StackNames E → List (Range ℕ)
  jumps_in s = jumps_of_item (slice_get (items_in s) (length (items_in s) - 1))

  -- what a start tag is run through
  abbrev pub ranges_to_run_in : Program → StackOf Name StackNames E → List (Range ℕ)
  ranges_to_run_in p s = tag_ranges p.entry_points (jumps_in s) (ranges_of_active (active_in s))

  -- what tests see of a child of this name that was counted
  abbrev pub sight_in : StackOf Name StackNames E → Name → Sight
  sight_in s name = record { name = name.lowercased; position = last_count s; typed_position = typed_count s name }
