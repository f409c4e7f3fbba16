use Rattle.std.proofs.Common.{rules}
use Rattle.lol_script.proofs.lines.rows_of.Goals as goal

pub returns-clause-said : goal.returns-clause-said
returns-clause-said c = search rules
