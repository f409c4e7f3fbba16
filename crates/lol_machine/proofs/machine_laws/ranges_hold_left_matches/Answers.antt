use Rattle.lol_machine.proofs.Held as proved
use Rattle.lol_machine.proofs.machine_laws.ranges_hold_left_matches.Goals as goal

pub returns : goal.returns
returns c = proved.ranges_hold_left_matches
