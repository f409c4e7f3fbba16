use Rattle.lol_machine.proofs.VmRefusals.{stands_has_open}
use Rattle.lol_machine.proofs.vm_laws.standing_has_open.Goals as goal

pub returns : goal.returns
returns g c = stands_has_open
