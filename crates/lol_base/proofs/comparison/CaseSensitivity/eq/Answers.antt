use Rattle.std.proofs.Common.{rules}
use Rattle.lol_base.proofs.comparison.CaseSensitivity.eq.Goals as goal

pub returns-in-CaseSensitive : goal.returns-in-CaseSensitive
returns-in-CaseSensitive c = search rules

pub returns-in-AsciiCaseInsensitive : goal.returns-in-AsciiCaseInsensitive
returns-in-AsciiCaseInsensitive c = search rules
