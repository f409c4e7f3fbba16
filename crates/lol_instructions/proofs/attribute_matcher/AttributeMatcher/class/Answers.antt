use Rattle.std.proofs.Common.{rules}
use Rattle.lol_instructions.proofs.attribute_matcher.AttributeMatcher.class.Goals as goal

pub returns : goal.returns
returns c = search rules
