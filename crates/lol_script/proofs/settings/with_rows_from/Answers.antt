use Rattle.std.proofs.Common.{rules}
use Rattle.lol_script.proofs.settings.with_rows_from.Goals as goal

pub returns-in-Some : goal.returns-in-Some
returns-in-Some c = search rules
