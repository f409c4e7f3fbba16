use Rattle.lol_machine.proofs.Whole.{tries_are_few}
use Rattle.lol_machine.proofs.vm_laws.tries_are_few.Goals as goal

pub returns : goal.returns
returns c = tries_are_few
