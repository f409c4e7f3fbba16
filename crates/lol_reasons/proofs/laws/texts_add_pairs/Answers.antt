use Rattle.lol_reasons.proofs.Reasons.{pairs_are_added}
use Rattle.lol_reasons.proofs.laws.texts_add_pairs.Goals as goal

pub returns : goal.returns
returns c = pairs_are_added
