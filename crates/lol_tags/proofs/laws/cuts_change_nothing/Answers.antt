use Rattle.lol_tags.specs.Cuts as cuts
use Rattle.lol_tags.proofs.laws.cuts_change_nothing.Goals as goal

pub returns : goal.returns
returns c = cuts.cuts_change_nothing
