use Rattle.std.proofs.Common.{rules}
use Rattle.lol_css.proofs.parser.Selector.list.Goals as goal

pub returns : goal.returns
returns c = search rules
