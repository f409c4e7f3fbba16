-- How far a start tag is tried before its attributes are handed over.
use Rattle.std.specs.Prelude.{ℕ, ◌≡◌, ◌<◌, ◌^◌, ◌⊎◌, Bool, true, false, List, length, Option, Some, None, Result, Ok, IfOk, IsOk}
use Rattle.std.specs.declared.ops.Range.{Range}
use Rattle.lol_program.specs.Programs.{all_addresses}
use Rattle.lol_program.specs.ProgramViews.{HasItsRows, has_rows}
use Rattle.lol_machine.specs.SparedRuns.{HasRowRoom, HasRoomFor, opens_at_once, ranges_after, ranges_by_name}
use Rattle.std.specs.declared.alloc.AllocError.{AllocError}
use Rattle.lol_base.specs.LocalNames.{Name}
use Rattle.lol_base.specs.StartTags.{StartTag}
use Rattle.lol_memory.specs.Ids.{Ids}
use Rattle.lol_instructions.specs.Tests.{is_html}
use Rattle.lol_instructions.specs.Counters.{full_count}
use Rattle.lol_instructions.specs.Tries.{attributes_counted, names_counted}
use Rattle.lol_instructions.specs.declared.tries.Tries.{Tries}
use Rattle.lol_stack.specs.Contexts.{IsNewItem}
use Rattle.lol_stack.specs.Stacks.{counted_in, last_count}
use Rattle.lol_stack.specs.declared.execution_ctx.ExecutionCtx.{ExecutionCtx}
use Rattle.lol_stack.specs.declared.stack.StackNames.{StackNames}
use Rattle.lol_stack.specs.declared.stack.StackOf.{StackOf}
use Rattle.lol_machine.specs.Events.{has_content}
use Rattle.lol_machine.specs.InstructionRuns.{AreRunnable, NeedNoMemory}
use Rattle.lol_machine.specs.TagRuns.{AreExecuted, AreTried, AreWithin, IsPointIn, ranges_left, sight_in, tried_at}
use Rattle.lol_instructions.specs.Attributes.{TagAttributes}
use Rattle.lol_machine.specs.Vms.{IsTagOf, Vm, instructions_in, ranges_to_try}
use Rattle.lol_machine.specs.declared.error.AuxStartTagInfoRequest.{AuxStartTagInfoRequest}
use Rattle.lol_machine.specs.declared.tag_runs.RecoveryPoint.{RecoveryPoint}
use Rattle.lol_machine.specs.declared.tag_runs.RecoveryPoint.TheVariants.{AtOnce, At}
use Rattle.lol_machine.specs.declared.tag_runs.Stop.{Stop}

-- Something is so of where a run stopped, if it did; or the rest of the tag was asked for before anything was run.
abbrev pub OfStop : (Option Stop → Type 0) → Type 0 → Option RecoveryPoint → Type 0
OfStop holds asked None = holds None
OfStop holds asked (Some AtOnce) = asked
OfStop holds asked (Some (At stop)) = holds (Some stop)

module _ {E R : Type 0} (ids : E → Ids) (with_ids : E → Ids → E) (old new : Vm E) (ctx next : ExecutionCtx E) (result : Result (Option RecoveryPoint) R) where
  abbrev pub tag_name : Name
  tag_name = ctx.stack_item.local_name

  -- what of a tag's ranges is tried by its name
  abbrev pub tried_ranges : List (Range ℕ)
  tried_ranges = ranges_by_name old.program tag_name.lowercased (ranges_to_try old)

  -- whether its attributes are asked for before
  abbrev pub is_open_at_once : Bool
  is_open_at_once = opens_at_once old.program tag_name.lowercased (ranges_to_try old)

  -- it was run, up to a stop
  abbrev pub WasTried : Bool → Option Stop → Type 0
  WasTried content stop =
      (is_open_at_once ≡ false)
      × AreTried ids with_ids (sight_in old.stack tag_name) (instructions_in old) tried_ranges (record ctx { with_content = content }) next old.tries new.tries stop

  -- nothing was run
  abbrev pub WasAsked : Bool → Type 0
  WasAsked content = (is_open_at_once ≡ true) × (next ≡ record ctx { with_content = content }) × (new.tries ≡ old.tries)

  -- A tag of HTML was run by its name, up to the first instruction that needs its attributes, or these were asked for at once.
  pub record IsTriedByName (content : Bool) : Type 0 where
    pub size : length (instructions_in old) < 2 ^ 63
    pub tried : HasItsRows old.program → AreRunnable (instructions_in old) tried_ranges old.tries → IfOk result (OfStop (WasTried content) (WasAsked content))
    pub attributes : attributes_counted new.tries ≡ attributes_counted old.tries
    pub within : HasItsRows old.program → is_open_at_once ≡ false → AreRunnable (instructions_in old) tried_ranges old.tries
        → AreWithin (sight_in old.stack tag_name) (instructions_in old) tried_ranges old.tries new.tries 0
    pub untried : HasItsRows old.program → is_open_at_once ≡ true → new.tries ≡ old.tries
    pub no_memory : HasItsRows old.program → (has_rows old.program ≡ true → HasRoomFor old.space (length (all_addresses (ranges_to_try old)))) → NeedNoMemory content (instructions_in old) → IsOk result

  -- a tag that isn't of HTML needs its attributes at once
  abbrev pub IsTriedAs : Bool → Bool → Type 0
  IsTriedAs true content = IsTriedByName content
  IsTriedAs false content = (result ≡ Ok (Some AtOnce)) × (next ≡ ctx) × (new ≡ old)

  abbrev pub IsTried : StartTag → Type 0
  IsTried tag = IsTriedAs (is_html tag.namespace) (has_content old.enable_esi_tags tag)

module _ {E : Type 0} where
  -- what a start tag that stopped at a point is run through, once its attributes are there
  abbrev pub ranges_to_complete : Vm E → ExecutionCtx E → RecoveryPoint → TagAttributes → List (Range ℕ)
  ranges_to_complete vm ctx point seen = ranges_after vm.program ctx.stack_item.local_name.lowercased seen (ranges_to_try vm) point

  -- nothing is known of a start tag but its name and namespace
  abbrev pub IsNewContext : (E → Ids) → ExecutionCtx E → Type 0
  IsNewContext ids ctx = IsNewItem ids ctx.stack_item.local_name ctx.stack_item × (ctx.with_content ≡ true)

  -- the request for the rest of a start tag that stopped at a point
  abbrev pub left_at : ExecutionCtx E → RecoveryPoint → AuxStartTagInfoRequest E
  left_at ctx point = record { ctx = ctx; point = point }

-- What is left of a start tag that stopped at a point was run with attributes.
pub record IsCompleted {E R : Type 0} (ids : E → Ids) (with_ids : E → Ids → E) (old new : Vm E) (ctx next : ExecutionCtx E) (point : RecoveryPoint) (seen : TagAttributes) (result : Result (Unit {0}) R) : Type 0 where
  pub executed : HasItsRows old.program → IsPointIn (instructions_in old) (ranges_to_complete old ctx point seen) point
      → AreRunnable (instructions_in old) (ranges_left (ranges_to_complete old ctx point seen) point) old.tries
      → IfOk result (λ done. AreExecuted ids with_ids (sight_in old.stack ctx.stack_item.local_name) (instructions_in old) (ranges_left (ranges_to_complete old ctx point seen) point) ctx next old.tries new.tries seen (tried_at point))
  pub within : HasItsRows old.program → IsPointIn (instructions_in old) (ranges_to_complete old ctx point seen) point
      → AreRunnable (instructions_in old) (ranges_left (ranges_to_complete old ctx point seen) point) old.tries
      → (new.tries ≡ old.tries) ⊎ AreWithin (sight_in old.stack ctx.stack_item.local_name) (instructions_in old) (ranges_left (ranges_to_complete old ctx point seen) point) old.tries new.tries (tried_at point)
  pub no_memory : HasItsRows old.program → (has_rows old.program ≡ true → HasRoomFor old.space (length (all_addresses (ranges_to_try old)))) → NeedNoMemory ctx.with_content (instructions_in old) → IsOk result

-- A start tag was counted, and tried by its name.
pub record IsBegun {E : Type 0} (ids : E → Ids) (with_ids : E → Ids → E) (old new : Vm E) (ctx next : ExecutionCtx E) (stopped : Option RecoveryPoint) : Type 0 where
  pub room : last_count old.stack < full_count
  pub stack : StackOf Name StackNames E
  pub counted : stack ≡ counted_in old.stack ctx.stack_item.local_name
  pub before : Tries
  pub names : names_counted before ≡ 0
  pub attributes : attributes_counted before ≡ 0
  pub kept : new ≡ record old { stack = stack; tries = new.tries; space = new.space }
  pub spared : HasRowRoom old.program old.space → HasRowRoom old.program new.space
  pub tried : (tag : StartTag) → IsTagOf ctx.stack_item.local_name ctx.ns tag
      → IsTried {R = AllocError} ids with_ids (record old { stack = stack; tries = before }) new ctx next (Ok stopped) tag
