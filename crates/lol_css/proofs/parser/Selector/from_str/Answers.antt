use Rattle.std.proofs.Common.{rules}
use Rattle.lol_css.proofs.parser.Selector.from_str.Goals as goal

pub returns : goal.returns
returns c = search rules
