use Rattle.lol_machine.proofs.Children as proved
use Rattle.lol_machine.proofs.machine_laws.documents_are_ordered.Goals as goal

pub returns : goal.returns
returns c = proved.documents_are_ordered
