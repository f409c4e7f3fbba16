use Rattle.std.proofs.Common.{arith}
use Rattle.std.proofs.lemmas.Grind.{common_steps}
use Rattle.lol_stack.proofs.name_blocks.names_below.Goals as goal

pub loop-low-preserved-then-lt : goal.loop-low-preserved-then-lt
loop-low-preserved-then-lt c = grind (arith, common_steps)
