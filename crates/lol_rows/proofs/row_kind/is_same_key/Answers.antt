use Rattle.std.proofs.Common.{rules}
use Rattle.lol_rows.proofs.row_kind.is_same_key.Goals as goal

pub returns-then-eq : goal.returns-then-eq
returns-then-eq c = search rules
