use denote.Param.Always.{always_mut}
use Rattle.lol_memory.specs.Ids.{ascending}
use Rattle.lol_stack.specs.Calls.{IsCalledAtEach, reports}
use Rattle.lol_stack.proofs.execution_ctx.report_ids.Given as goal

abbrev pub invariant-loop-match_id : goal.invariant-loop-match_id
invariant-loop-match_id g l =
    always_mut g.F.FnMut l.handler
    × ((last : _) → IsCalledAtEach (λ p x r q. goal.F-step g p x r q) l.handler (reports l.with_content l.match_id-iterator) last
    → IsCalledAtEach (λ p x r q. goal.F-step g p x r q) l.initial.handler (reports l.with_content (ascending l.ids)) last)
