use Rattle.std.proofs.Common.{rules}
use Rattle.lol_machine.proofs.spared_runs.find_unless_open.Goals as goal

pub returns-clause-asks : goal.returns-clause-asks
returns-clause-asks c = search rules
