use Rattle.lol_machine.proofs.ReportLengths.{reports_are_few}
use Rattle.lol_machine.proofs.vm_laws.reports_are_few.Goals as goal

pub returns : goal.returns
returns g c = reports_are_few
