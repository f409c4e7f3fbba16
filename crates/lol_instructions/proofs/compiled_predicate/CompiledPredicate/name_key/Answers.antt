use Rattle.std.proofs.Common.{arith}
use Rattle.std.proofs.lemmas.Grind.{common_steps}
use Rattle.lol_instructions.proofs.compiled_predicate.CompiledPredicate.name_key.Goals as goal

pub loop-test-preserved : goal.loop-test-preserved
loop-test-preserved c = grind (arith, common_steps)
