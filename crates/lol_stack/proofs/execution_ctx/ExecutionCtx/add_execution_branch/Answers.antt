use Rattle.std.proofs.Common.{rules}
use Rattle.lol_stack.proofs.execution_ctx.ExecutionCtx.add_execution_branch.Goals as goal

pub returns-clause-ok : goal.returns-clause-ok
returns-clause-ok g c = search rules
