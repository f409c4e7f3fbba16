use Rattle.std.proofs.Common.{rules}
use Rattle.lol_stack.proofs.stack.StackOf+LocalName+StackNames+E.open_places.Goals as goal

pub returns : goal.returns
returns c = search rules
