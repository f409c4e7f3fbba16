use Rattle.std.proofs.Common.{arith}
use Rattle.std.proofs.lemmas.Grind.{common_steps}
use Rattle.lol_machine.proofs.instruction_runs.can_count.Goals as goal

pub returns-then-more-names : goal.returns-then-more-names
returns-then-more-names c = grind (arith, common_steps)
