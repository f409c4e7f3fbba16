use Rattle.std.proofs.Common.{arith}
use Rattle.std.proofs.lemmas.Grind.{common_steps}
use Rattle.lol_memory.proofs.words.Words.join.Goals as goal

pub returns-in-Heap-clause-ok : goal.returns-in-Heap-clause-ok
returns-in-Heap-clause-ok c = grind (arith, common_steps)
