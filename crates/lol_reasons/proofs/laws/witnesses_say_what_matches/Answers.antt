use Rattle.lol_reasons.proofs.WitnessLemmas.{innermost_is_witness, matches_by_witness, innermost_where_matches, witnesses_are_complete}
use Rattle.lol_reasons.proofs.laws.witnesses_say_what_matches.Goals as goal

pub returns : goal.returns
returns c = record { witness = innermost_is_witness; matches = matches_by_witness; found = innermost_where_matches; complete = witnesses_are_complete }
