use Rattle.std.proofs.Common.{rules}
use Rattle.lol_machine.proofs.spared_runs.find_at.Goals as goal

pub returns-in-AtOnce-clause-left : goal.returns-in-AtOnce-clause-left
returns-in-AtOnce-clause-left c = search rules
