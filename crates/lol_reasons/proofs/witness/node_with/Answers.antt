use Rattle.std.proofs.Common.{arith}
use Rattle.std.proofs.lemmas.Grind.{common_steps}
use Rattle.lol_reasons.proofs.witness.node_with.Goals as goal

pub returns-then-has_id : goal.returns-then-has_id
returns-then-has_id c = grind (arith, common_steps)
