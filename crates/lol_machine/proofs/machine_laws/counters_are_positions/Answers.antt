use Rattle.lol_machine.proofs.StackCounting as proved
use Rattle.lol_machine.proofs.machine_laws.counters_are_positions.Goals as goal

pub returns : goal.returns
returns g c = proved.counters_are_positions
