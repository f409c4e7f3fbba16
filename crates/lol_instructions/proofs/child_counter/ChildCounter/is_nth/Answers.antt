use Rattle.std.proofs.Common.{rules}
use Rattle.lol_instructions.proofs.child_counter.ChildCounter.is_nth.Goals as goal

pub returns-clause-member : goal.returns-clause-member
returns-clause-member c = search rules

pub returns-clause-computed : goal.returns-clause-computed
returns-clause-computed c = search rules
