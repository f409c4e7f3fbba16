use Rattle.lol_machine.proofs.VmData.{last_data_are_lent, last_data_change}
use Rattle.lol_machine.proofs.vm_laws.last_data_are_lent.Goals as goal

pub returns-clause-lent : goal.returns-clause-lent
returns-clause-lent g c = last_data_are_lent

pub returns-clause-changed : goal.returns-clause-changed
returns-clause-changed g c = last_data_change
