use Rattle.lol_page.specs.Namespaces.{text_points}
use Rattle.lol_page.proofs.namespaces.is_text_point.Goals as goal

pub returns : goal.returns
unfolding text_points
returns c = c.is_among.ensures
