use Rattle.std.proofs.Common.{rules}
use Rattle.lol_memory.proofs.words.Words.try_clone.Goals as goal

pub returns-clause-ok : goal.returns-clause-ok
returns-clause-ok c = search rules
