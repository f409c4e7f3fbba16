use Rattle.std.proofs.Common.{arith, rules}
use Rattle.std.proofs.lemmas.Grind.{common_steps}
use Rattle.lol_base.proofs.local_name.LocalNameHash.hash.Goals as goal

pub returns-in-Some : goal.returns-in-Some
returns-in-Some c = search rules

pub loop-byte-preserved : goal.loop-byte-preserved
loop-byte-preserved c = grind (arith, common_steps)
