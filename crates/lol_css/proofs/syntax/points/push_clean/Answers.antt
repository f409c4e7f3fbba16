use Rattle.std.proofs.Common.{rules}
use Rattle.lol_css.proofs.syntax.points.push_clean.Goals as goal

pub returns-in_ok-push : goal.returns-in_ok-push
returns-in_ok-push c = search rules
