use Rattle.std.proofs.Common.{rules}
use Rattle.lol_stack.proofs.stack_item.StackItemOf+LocalName+E.into_owned.Goals as goal

pub returns : goal.returns
returns c = search rules
