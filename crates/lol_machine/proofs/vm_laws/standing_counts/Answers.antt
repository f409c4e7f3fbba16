use Rattle.lol_machine.proofs.StackCounting.{standing_counts}
use Rattle.lol_machine.proofs.vm_laws.standing_counts.Goals as goal

pub returns : goal.returns
returns g c = standing_counts
