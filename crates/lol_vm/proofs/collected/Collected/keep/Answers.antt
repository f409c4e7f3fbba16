use Rattle.std.proofs.Common.{rules}
use Rattle.lol_vm.proofs.collected.Collected.keep.Goals as goal

pub returns-else-not-self : goal.returns-else-not-self
returns-else-not-self c = search rules
