use Rattle.std.proofs.Common.{rules}
use Rattle.lol_memory.proofs.limited_vec.LimitedVec.make_room.Goals as goal

pub returns-in-Err-clause-err_limiter : goal.returns-in-Err-clause-err_limiter
returns-in-Err-clause-err_limiter c = search rules
