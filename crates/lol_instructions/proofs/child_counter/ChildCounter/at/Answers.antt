use Rattle.std.proofs.Common.{rules}
use Rattle.lol_instructions.proofs.child_counter.ChildCounter.at.Goals as goal

pub returns : goal.returns
returns c = search rules
