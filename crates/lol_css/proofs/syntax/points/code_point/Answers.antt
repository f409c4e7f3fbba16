use Rattle.std.proofs.Common.{rules}
use Rattle.lol_css.proofs.syntax.points.code_point.Goals as goal

pub returns-in_default : goal.returns-in_default
returns-in_default c = search rules
