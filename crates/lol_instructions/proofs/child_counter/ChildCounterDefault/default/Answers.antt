use Rattle.std.proofs.Common.{rules}
use Rattle.lol_instructions.proofs.child_counter.ChildCounterDefault.default.Goals as goal

pub returns : goal.returns
returns c = search rules
