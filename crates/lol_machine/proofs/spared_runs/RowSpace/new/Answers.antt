use Rattle.std.proofs.Common.{rules}
use Rattle.lol_machine.proofs.spared_runs.RowSpace.new.Goals as goal

pub returns-clause-room : goal.returns-clause-room
returns-clause-room c = search rules
