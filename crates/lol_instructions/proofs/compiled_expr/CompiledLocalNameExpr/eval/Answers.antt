use Rattle.std.proofs.Common.{rules}
use Rattle.lol_instructions.proofs.compiled_expr.CompiledLocalNameExpr.eval.Goals as goal

pub returns-in-NthOfType : goal.returns-in-NthOfType
returns-in-NthOfType c = search rules
