use Rattle.std.proofs.Common.{rules}
use Rattle.lol_instructions.proofs.instruction.Instruction.exec.Goals as goal

pub returns-clause-attributes : goal.returns-clause-attributes
returns-clause-attributes c = search rules
