use Rattle.std.proofs.Common.{arith}
use Rattle.std.proofs.lemmas.Grind.{common_steps}
use Rattle.lol_machine.proofs.tag_runs.LeftRangesTagRanges.range.Goals as goal

pub returns : goal.returns
returns c = grind (arith, common_steps)
