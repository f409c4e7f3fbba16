use Rattle.lol_reasons.proofs.TriedNodes.{calls_are_counted, tries_are_at_most, tries_and_spared_are_all, no_keys_are_exact, order_changes_no_tries, answers_are_sparing}
use Rattle.lol_reasons.proofs.key_laws.tries_are_spared.Goals as goal

pub returns : goal.returns
returns c = record {
  calls = calls_are_counted;
  most = tries_are_at_most;
  all = tries_and_spared_are_all;
  exact = no_keys_are_exact;
  order = order_changes_no_tries;
  answers = answers_are_sparing;
}
