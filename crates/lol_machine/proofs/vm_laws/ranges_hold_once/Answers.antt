use Rattle.lol_machine.proofs.Whole.{ranges_hold_once}
use Rattle.lol_machine.proofs.vm_laws.ranges_hold_once.Goals as goal

pub returns : goal.returns
returns g c = ranges_hold_once
