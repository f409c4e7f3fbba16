use Rattle.std.proofs.Common.{rules}
use Rattle.lol_memory.proofs.limited_vec.LimitedVec.push.Goals as goal

pub returns-clause-ok : goal.returns-clause-ok
returns-clause-ok c = search rules
