-- What a start tag gathers.
use Rattle.std.specs.Prelude.{◌≡◌, Bool, true, if◌then◌else◌, [], IsNone}
use Rattle.lol_memory.specs.Ids.{Ids, AllSmall, no_ids, union}
use Rattle.lol_instructions.specs.declared.execution_branch.ExecutionBranch.{ExecutionBranch}
use Rattle.lol_stack.specs.WithRange.{with_range}
use Rattle.lol_stack.specs.declared.stack_item.StackItemOf.{StackItemOf}
use Rattle.lol_stack.specs.declared.stack_item.StackDirective.TheVariants.{Push}
use Rattle.lol_stack.specs.declared.execution_ctx.ExecutionCtx.{ExecutionCtx}

-- an element before anything is known of it but its name; `ids_of` is what its data mean
pub record IsNewItem {N E : Type 0} (ids_of : E → Ids) (local_name : N) (item : StackItemOf N E) : Type 0 where
  pub name : item.local_name ≡ local_name
  pub ids : ids_of item.element_data ≡ no_ids
  pub jumps : item.jumps ≡ []
  pub hereditary_jumps : item.hereditary_jumps ≡ []
  pub children : item.child_counter ≡ 0
  pub directive : item.stack_directive ≡ Push

-- an element with the ranges that an instruction gives
abbrev pub with_ranges : {N E : Type 0} → StackItemOf N E → ExecutionBranch → StackItemOf N E
with_ranges item branch =
    record item { jumps = with_range item.jumps branch.jumps; hereditary_jumps = with_range item.hereditary_jumps branch.hereditary_jumps }

-- an element whose data hold more ids
abbrev pub with_more_ids : {N E : Type 0} → (E → Ids) → (E → Ids → E) → StackItemOf N E → Ids → StackItemOf N E
with_more_ids ids with_ids item more = record item { element_data = with_ids item.element_data (union (ids item.element_data) more) }

-- What is gathered with what an instruction gives: its ids, and where there is content its ranges too.
abbrev pub with_branch : {E : Type 0} → (E → Ids) → (E → Ids → E) → ExecutionCtx E → ExecutionBranch → ExecutionCtx E
with_branch ids with_ids ctx branch =
    record ctx { stack_item = with_more_ids ids with_ids (if ctx.with_content then with_ranges ctx.stack_item branch else ctx.stack_item) branch.matched_ids }

-- What an instruction gives needs no memory: its ids are below 32, and there is no content, or neither of its ranges is there.
abbrev pub NeedsNoMemory : Bool → ExecutionBranch → Type 0
NeedsNoMemory content branch = AllSmall branch.matched_ids × (content ≡ true → IsNone branch.jumps × IsNone branch.hereditary_jumps)
