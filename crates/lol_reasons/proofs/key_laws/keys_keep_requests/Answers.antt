use Rattle.lol_reasons.proofs.TriedNodes.{names_keep_asks, asks_by_tries, calls_ask_where_asked, first_step_sees_no_rest}
use Rattle.lol_reasons.proofs.key_laws.keys_keep_requests.Goals as goal

pub returns : goal.returns
returns c = record { names = names_keep_asks; tries = asks_by_tries; calls = calls_ask_where_asked; unseen = first_step_sees_no_rest }
