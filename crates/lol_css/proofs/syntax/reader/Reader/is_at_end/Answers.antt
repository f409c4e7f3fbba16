use Rattle.std.proofs.Common.{rules}
use Rattle.lol_css.proofs.syntax.reader.Reader.is_at_end.Goals as goal

pub returns-in-None : goal.returns-in-None
returns-in-None c = search rules
