use Rattle.std.proofs.Common.{rules}
use Rattle.lol_program.proofs.condition.Condition.from_simple.Goals as goal

pub returns : goal.returns
returns c = search rules
