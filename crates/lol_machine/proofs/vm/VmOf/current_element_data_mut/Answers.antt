use Rattle.std.proofs.Common.{rules}
use Rattle.lol_machine.proofs.vm.VmOf.current_element_data_mut.Goals as goal

pub returns : goal.returns
returns c = search rules
