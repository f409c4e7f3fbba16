use Rattle.std.proofs.Common.{rules}
use Rattle.lol_rows.proofs.row_kind.RowKind.hash.Goals as goal

pub returns-in-Names : goal.returns-in-Names
returns-in-Names c = search rules
