use Rattle.std.proofs.Common.{arith}
use Rattle.std.proofs.lemmas.Grind.{common_steps}
use Rattle.lol_matcher.proofs.explaining.item_numbers.Goals as goal

pub loop-info-preserved : goal.loop-info-preserved
loop-info-preserved c = grind (arith, common_steps)
