use Rattle.std.proofs.Common.{arith, rules}
use Rattle.std.proofs.lemmas.Grind.{common_steps}
use Rattle.lol_instructions.proofs.keys.last_part.Goals as goal

pub returns-in-AsciiCaseInsensitive : goal.returns-in-AsciiCaseInsensitive
returns-in-AsciiCaseInsensitive c = search rules

pub returns-in_ok-start-in-ExplicitCaseSensitive : goal.returns-in_ok-start-in-ExplicitCaseSensitive
returns-in_ok-start-in-ExplicitCaseSensitive c = grind (arith, common_steps)
