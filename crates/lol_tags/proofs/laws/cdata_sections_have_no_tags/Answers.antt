use Rattle.lol_tags.proofs.Within.{cdata-none}
use Rattle.lol_tags.proofs.laws.cdata_sections_have_no_tags.Goals as goal

pub returns : goal.returns
returns c = cdata-none
