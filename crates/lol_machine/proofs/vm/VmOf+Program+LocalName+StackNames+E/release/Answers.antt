use Rattle.std.proofs.Common.{rules}
use Rattle.lol_machine.proofs.vm.VmOf+Program+LocalName+StackNames+E.release.Goals as goal

pub returns : goal.returns
returns c = search rules
