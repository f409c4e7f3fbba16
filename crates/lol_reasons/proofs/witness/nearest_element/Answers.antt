use Rattle.std.proofs.Common.{arith}
use Rattle.std.proofs.lemmas.Grind.{common_steps}
use Rattle.lol_reasons.proofs.witness.nearest_element.Goals as goal

pub returns-then-are_with-clause-value : goal.returns-then-are_with-clause-value
returns-then-are_with-clause-value c = grind (arith, common_steps)
