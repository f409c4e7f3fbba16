use Rattle.std.proofs.Common.{map, arith}
use Rattle.std.proofs.lemmas.Grind.{common_steps}
use Rattle.lol_instructions.specs.CompiledKeys.{compiled_key_test}
use Rattle.lol_instructions.specs.OpenKeyLaws.{opens_from_start}
use Rattle.lol_instructions.proofs.compiled_predicate.CompiledPredicate.opens_where_named.Goals as goal

pub loop-test-init : goal.loop-test-init
loop-test-init c = opens_from_start (map compiled_key_test c.deref-test-items.result.now)

pub loop-test-preserved : goal.loop-test-preserved
loop-test-preserved c = grind (arith, common_steps)
