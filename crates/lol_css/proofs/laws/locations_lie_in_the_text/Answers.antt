use Rattle.lol_css.proofs.Located.{location-small}
use Rattle.lol_css.proofs.laws.locations_lie_in_the_text.Goals as goal

pub returns : goal.returns
returns c = location-small
