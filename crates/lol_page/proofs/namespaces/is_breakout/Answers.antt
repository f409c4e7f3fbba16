use Rattle.lol_page.specs.Namespaces.{breakouts}
use Rattle.lol_page.proofs.namespaces.is_breakout.Goals as goal

pub returns : goal.returns
unfolding breakouts
returns c = c.are_among.ensures
