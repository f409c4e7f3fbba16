use Rattle.std.proofs.Common.{rules}
use Rattle.lol_stack.proofs.stack.StackOf+LocalName+StackNames+E.new.Goals as goal

pub returns : goal.returns
returns c = search rules
