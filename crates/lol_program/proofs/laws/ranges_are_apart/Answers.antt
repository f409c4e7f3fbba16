use Rattle.lol_program.proofs.Apart as proved
use Rattle.lol_program.proofs.laws.ranges_are_apart.Goals as goal

pub returns : goal.returns
returns c = proved.ranges_are_apart
