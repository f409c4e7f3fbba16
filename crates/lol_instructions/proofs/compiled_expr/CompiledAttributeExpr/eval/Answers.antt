use Rattle.std.proofs.Common.{rules}
use Rattle.lol_instructions.proofs.compiled_expr.CompiledAttributeExpr.eval.Goals as goal

pub returns-in-Prefix : goal.returns-in-Prefix
returns-in-Prefix c = search rules
