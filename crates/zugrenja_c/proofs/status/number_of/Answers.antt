use Rattle.std.proofs.Common.{rules}
use Rattle.zugrenja_c.proofs.status.number_of.Goals as goal

pub returns-in-MemoryLimitExceeded : goal.returns-in-MemoryLimitExceeded
returns-in-MemoryLimitExceeded c = search rules
