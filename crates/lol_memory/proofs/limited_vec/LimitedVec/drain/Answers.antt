use Rattle.lol_memory.proofs.DrainLemmas.{drain_runs, drain_keeps_along}
use Rattle.lol_memory.proofs.limited_vec.LimitedVec.drain.Goals as goal

pub returns-clause-runs : goal.returns-clause-runs
returns-clause-runs g c = drain_runs

pub returns-clause-stays : goal.returns-clause-stays
returns-clause-stays g c = drain_keeps_along _
