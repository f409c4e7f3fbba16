use Rattle.lol_program.proofs.Laid as proved
use Rattle.lol_program.proofs.laws.worked_layout.Goals as goal

pub returns : goal.returns
returns c = proved.worked_layout
