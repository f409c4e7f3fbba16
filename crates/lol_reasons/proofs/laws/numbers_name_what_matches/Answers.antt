use Rattle.lol_reasons.proofs.Naming as proved
use Rattle.lol_reasons.proofs.laws.numbers_name_what_matches.Goals as goal

pub returns : goal.returns
returns c = proved.numbers_name_what_matches
