use Rattle.lol_machine.proofs.VmData.{pending_stands}
use Rattle.lol_machine.proofs.vm_laws.dropped_requests_stand.Goals as goal

pub returns : goal.returns
returns g c = pending_stands
