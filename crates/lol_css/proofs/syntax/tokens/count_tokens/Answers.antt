use Rattle.std.proofs.Common.{arith}
use Rattle.lol_css.proofs.Fewer.{tokens_of-fewer}
use Rattle.lol_css.proofs.syntax.tokens.count_tokens.Goals as goal

pub overflow_add-count : goal.overflow_add-count
overflow_add-count c = omega (arith, c.loop-after.invariant, tokens_of-fewer c.args.text.now)

pub returns-clause-small : goal.returns-clause-small
returns-clause-small c = omega (arith, c.loop-after.invariant, tokens_of-fewer c.args.text.now)
