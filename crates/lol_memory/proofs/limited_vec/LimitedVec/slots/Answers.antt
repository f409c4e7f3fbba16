use Rattle.std.proofs.Common.{rules}
use Rattle.lol_memory.proofs.limited_vec.LimitedVec.slots.Goals as goal

pub returns-clause-value : goal.returns-clause-value
returns-clause-value c = search rules
