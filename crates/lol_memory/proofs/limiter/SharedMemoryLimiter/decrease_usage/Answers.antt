use Rattle.std.proofs.Common.{rules}
use Rattle.lol_memory.proofs.limiter.SharedMemoryLimiter.decrease_usage.Goals as goal

pub returns : goal.returns
returns c = search rules
