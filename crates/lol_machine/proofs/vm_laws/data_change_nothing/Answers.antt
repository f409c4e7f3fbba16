use Rattle.lol_machine.proofs.VmData.{data_change_nothing, data_keep_open, data_keep_requests}
use Rattle.lol_machine.proofs.vm_laws.data_change_nothing.Goals as goal

pub returns-clause-stands : goal.returns-clause-stands
returns-clause-stands g c = data_change_nothing

pub returns-clause-still_open : goal.returns-clause-still_open
returns-clause-still_open g c = data_keep_open

pub returns-clause-pending : goal.returns-clause-pending
returns-clause-pending g c = data_keep_requests
