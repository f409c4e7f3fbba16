use Rattle.std.proofs.Common.{rules}
use Rattle.lol_memory.proofs.limited_vec.LimitedVecIndexUsize.index.Goals as goal

pub returns : goal.returns
returns c = search rules
