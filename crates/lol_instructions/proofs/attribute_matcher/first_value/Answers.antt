use Rattle.std.proofs.Common.{rules}
use Rattle.lol_instructions.proofs.attribute_matcher.first_value.Goals as goal

pub returns-then-is_lowercased : goal.returns-then-is_lowercased
returns-then-is_lowercased c = search rules
