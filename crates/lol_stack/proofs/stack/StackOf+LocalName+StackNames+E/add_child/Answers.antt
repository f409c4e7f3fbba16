use Rattle.std.proofs.Common.{rules}
use Rattle.lol_stack.proofs.stack.StackOf+LocalName+StackNames+E.add_child.Goals as goal

pub returns-in-Err-clause-err : goal.returns-in-Err-clause-err
returns-in-Err-clause-err c = search rules
