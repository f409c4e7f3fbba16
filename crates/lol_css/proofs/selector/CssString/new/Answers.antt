use Rattle.std.proofs.Common.{rules}
use Rattle.lol_css.proofs.selector.CssString.new.Goals as goal

pub returns : goal.returns
returns c = search rules
