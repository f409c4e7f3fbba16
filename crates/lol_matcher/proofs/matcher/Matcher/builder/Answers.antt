use Rattle.std.proofs.Common.{rules}
use Rattle.lol_matcher.proofs.matcher.Matcher.builder.Goals as goal

pub returns-clause-bytes : goal.returns-clause-bytes
returns-clause-bytes c = search rules
