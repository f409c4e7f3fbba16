use Rattle.lol_references.proofs.Longest.{longest_of_all}
use Rattle.lol_references.proofs.laws.longest_name_is_read.Goals as goal

pub returns : goal.returns
returns c = longest_of_all
