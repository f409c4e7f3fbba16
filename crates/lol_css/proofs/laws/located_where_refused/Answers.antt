use Rattle.lol_css.proofs.Located.{location-refused, location-accepted}
use Rattle.lol_css.proofs.laws.located_where_refused.Goals as goal

pub returns : goal.returns
returns c text = (location-refused text, location-accepted text)
