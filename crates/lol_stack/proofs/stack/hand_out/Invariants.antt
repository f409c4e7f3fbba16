use Rattle.std.proofs.Common.{◌≡◌, drop, take}
use denote.Param.Always.{always_mut}
use Rattle.lol_memory.specs.LimitedVec.{with_items}
use Rattle.lol_memory.specs.Drain.{drain_rest, drain_left}
use Rattle.lol_stack.specs.Calls.{IsCalledAtEach}
use Rattle.lol_stack.specs.Stacks.{element_data_of}
use Rattle.lol_stack.proofs.stack.hand_out.Given as goal

abbrev pub invariant-loop-item : goal.invariant-loop-item
invariant-loop-item g l =
    always_mut g.F.FnMut l.handler
    × ((last : _) → IsCalledAtEach (λ p x r q. goal.F-step g p x r q) l.handler (element_data_of (drain_rest l.item-iterator)) last
    → IsCalledAtEach (λ p x r q. goal.F-step g p x r q) l.initial.handler (element_data_of (drop l.depth l.fn.items.items)) last)
    × (drain_left l.item-iterator ≡ with_items l.fn.items (take l.depth l.fn.items.items))
