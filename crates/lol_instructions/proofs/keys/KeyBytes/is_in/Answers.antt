use Rattle.std.proofs.Common.{rules}
use Rattle.lol_instructions.proofs.keys.KeyBytes.is_in.Goals as goal

pub returns-in-Class : goal.returns-in-Class
returns-in-Class c = search rules

pub returns-in-Part : goal.returns-in-Part
returns-in-Part c = search rules
