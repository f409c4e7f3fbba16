use Rattle.lol_program.proofs.Laid as proved
use Rattle.lol_program.proofs.laws.layouts_are_programs.Goals as goal

pub returns : goal.returns
returns c = proved.layouts_are_programs
