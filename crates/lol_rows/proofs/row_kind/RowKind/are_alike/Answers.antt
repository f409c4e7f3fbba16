use Rattle.std.proofs.Common.{rules}
use Rattle.lol_rows.proofs.row_kind.RowKind.are_alike.Goals as goal

pub returns-then-named_alike : goal.returns-then-named_alike
returns-then-named_alike c = search rules
