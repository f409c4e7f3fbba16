use Rattle.std.proofs.Common.{rules}
use Rattle.lol_instructions.proofs.keys.tested_name.Goals as goal

pub returns-in-None : goal.returns-in-None
returns-in-None c = search rules
