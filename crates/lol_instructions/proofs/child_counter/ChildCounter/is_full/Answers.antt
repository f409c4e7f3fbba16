use Rattle.std.proofs.Common.{rules}
use Rattle.lol_instructions.proofs.child_counter.ChildCounter.is_full.Goals as goal

pub returns-clause-full : goal.returns-clause-full
returns-clause-full c = search rules
