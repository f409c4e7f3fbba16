use Rattle.std.proofs.Common.{rules}
use Rattle.lol_machine.proofs.error.VmErrorFromAddChildError.from.Goals as goal

pub returns-in-CounterFull : goal.returns-in-CounterFull
returns-in-CounterFull c = search rules
