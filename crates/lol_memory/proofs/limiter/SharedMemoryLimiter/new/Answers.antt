use Rattle.std.proofs.Common.{rules}
use Rattle.lol_memory.proofs.limiter.SharedMemoryLimiter.new.Goals as goal

pub returns : goal.returns
returns c = search rules
