use Rattle.std.proofs.Common.{rules}
use Rattle.lol_matcher.proofs.tags.number_opened.Goals as goal

pub returns : goal.returns
returns c = search rules
