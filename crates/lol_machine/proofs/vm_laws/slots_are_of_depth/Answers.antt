use Rattle.lol_machine.proofs.VmData.{slots_are_of_depth}
use Rattle.lol_machine.proofs.vm_laws.slots_are_of_depth.Goals as goal

pub returns : goal.returns
returns g c = slots_are_of_depth
