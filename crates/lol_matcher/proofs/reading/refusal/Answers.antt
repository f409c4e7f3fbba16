use Rattle.std.proofs.Common.{rules}
use Rattle.lol_matcher.proofs.reading.refusal.Goals as goal

pub returns-in-Ok-Some : goal.returns-in-Ok-Some
returns-in-Ok-Some c = search rules
