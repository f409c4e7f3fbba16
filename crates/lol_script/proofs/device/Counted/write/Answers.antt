use Rattle.std.proofs.Common.{rules}
use Rattle.lol_script.proofs.device.Counted.write.Goals as goal

pub returns-in-Ok-clause-some : goal.returns-in-Ok-clause-some
returns-in-Ok-clause-some c = search rules
