use Rattle.std.proofs.Common.{rules}
use Rattle.lol_instructions.proofs.instruction.Instruction.try_exec_without_attrs.Goals as goal

pub returns-in-Open-clause-answer : goal.returns-in-Open-clause-answer
returns-in-Open-clause-answer c = search rules
