use Rattle.std.proofs.Common.{rules}
use Rattle.lol_stack.proofs.stack.hand_out.Goals as goal

pub returns : goal.returns
returns c = search rules
