use Rattle.lol_reasons.proofs.WitnessLemmas.{innermost_is_known}
use Rattle.lol_reasons.proofs.laws.innermost_witnesses_are_known.Goals as goal

pub returns : goal.returns
returns c = innermost_is_known
