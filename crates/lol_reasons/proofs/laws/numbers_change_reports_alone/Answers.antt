use Rattle.lol_reasons.proofs.Alike.{nodes_decide_the_rest, numbers_change_no_node}
use Rattle.lol_reasons.proofs.laws.numbers_change_reports_alone.Goals as goal

pub returns : goal.returns
returns c = record { alike = nodes_decide_the_rest; nodes = numbers_change_no_node }
