use Rattle.lol_reasons.proofs.Closings as proved
use Rattle.lol_reasons.proofs.run_laws.ends_close_inside.Goals as goal

pub returns : goal.returns
returns c = proved.ends_close_inside
