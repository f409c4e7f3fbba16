use Rattle.std.proofs.Common.{arith}
use Rattle.std.proofs.lemmas.Grind.{elements}
use Rattle.lol_instructions.proofs.attribute_matcher.AttributeMatcher.value_at.Goals as goal

pub returns : goal.returns
returns c = grind (arith, elements)
