use Rattle.std.proofs.Common.{arith}
use Rattle.std.proofs.lemmas.Grind.{elements}
use Rattle.lol_memory.proofs.limited_vec.LimitedVec.last_mut.Goals as goal

pub returns : goal.returns
returns c = grind (arith, elements)
