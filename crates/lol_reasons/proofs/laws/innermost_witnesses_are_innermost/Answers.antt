use Rattle.lol_reasons.proofs.WitnessLemmas.{none_is_nearer, innermost_is_only_one}
use Rattle.lol_reasons.proofs.laws.innermost_witnesses_are_innermost.Goals as goal

pub returns : goal.returns
returns c = record { none_nearer = none_is_nearer; only = innermost_is_only_one }
