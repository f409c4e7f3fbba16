use Rattle.lol_machine.proofs.VmFinishes.{requests_try_at_most}
use Rattle.lol_machine.proofs.vm_laws.requests_try_at_most.Goals as goal

pub returns : goal.returns
returns g c = requests_try_at_most
