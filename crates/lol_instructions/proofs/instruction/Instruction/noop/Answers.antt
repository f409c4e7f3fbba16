use Rattle.std.proofs.Common.{rules}
use Rattle.lol_instructions.proofs.instruction.Instruction.noop.Goals as goal

pub returns : goal.returns
returns c = search rules
