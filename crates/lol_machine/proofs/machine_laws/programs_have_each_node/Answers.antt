use Rattle.lol_machine.proofs.Held as proved
use Rattle.lol_machine.proofs.machine_laws.programs_have_each_node.Goals as goal

pub returns : goal.returns
returns c = proved.programs_have_each_node
