use Rattle.lol_reasons.proofs.Around.{machines_show_around}
use Rattle.lol_reasons.proofs.laws.machines_show_around.Goals as goal

pub returns : goal.returns
returns g c = machines_show_around _
