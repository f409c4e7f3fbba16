use Rattle.std.proofs.Common.{rules}
use Rattle.lol_stack.proofs.counters.CounterLists.start_kept.Goals as goal

pub returns-clause-kept : goal.returns-clause-kept
returns-clause-kept c = search rules
