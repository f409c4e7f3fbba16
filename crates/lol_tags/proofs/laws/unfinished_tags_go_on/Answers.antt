use Rattle.lol_tags.proofs.Standing.{goes-on, ends-open}
use Rattle.lol_tags.proofs.laws.unfinished_tags_go_on.Goals as goal

pub returns : goal.returns
returns c = record { begins = goes-on; ends = ends-open }
