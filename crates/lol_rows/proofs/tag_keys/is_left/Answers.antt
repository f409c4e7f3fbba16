use Rattle.std.proofs.Common.{rules}
use Rattle.lol_rows.proofs.tag_keys.is_left.Goals as goal

pub returns-then-not-has_other_name : goal.returns-then-not-has_other_name
returns-then-not-has_other_name c = search rules
