use Rattle.lol_stack.proofs.execution_ctx.ExecutionCtx.handle_matched_ids.Goals as goal

pub returns-clause-called : goal.returns-clause-called
returns-clause-called g c = rw (← c.matched_ids_mut.ensures.value) c.report_ids.ensures.called
