use Rattle.std.proofs.Common.{rules}
use Rattle.lol_css.proofs.parser.Selector.locate_error.Goals as goal

pub returns-in_default : goal.returns-in_default
returns-in_default c = search rules
