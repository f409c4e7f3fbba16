use Rattle.std.proofs.Common.{rules}
use Rattle.lol_instructions.proofs.tries.Tries.attributes.Goals as goal

pub returns : goal.returns
returns c = search rules
