use Rattle.lol_machine.proofs.Common.{every_report}
use Rattle.lol_machine.proofs.laws.reports_are_ascending_and_exact.Goals as goal

pub returns : goal.returns
returns c = every_report
