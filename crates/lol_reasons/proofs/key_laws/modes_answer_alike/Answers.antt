use Rattle.lol_reasons.proofs.TriedNodes.{modes_answer_alike, modes_answer_by_keys, modes_count_tries}
use Rattle.lol_reasons.proofs.key_laws.modes_answer_alike.Goals as goal

pub returns : goal.returns
returns c = record { counts = modes_count_tries; keys = modes_answer_by_keys; alike = modes_answer_alike }
