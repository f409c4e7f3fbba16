use Rattle.lol_machine.proofs.Common.{refl, selectors}
use Rattle.lol_machine.specs.Laws.{in_mode}
use Rattle.lol_program.specs.ClosedLaws.{trees_are_closed}
use Rattle.lol_machine.specs.AnswerLaws.{order_changes_nothing}
use Rattle.lol_machine.proofs.laws.trees_answer_alike.Goals as goal

pub returns : goal.returns
returns c = λ a b pairs nodes by_keys esi events.
    (order_changes_nothing (in_mode by_keys (selectors a)) (in_mode by_keys (selectors b))
    (record { pairs = pairs; nodes = nodes; each_once = (trees_are_closed by_keys a).once; each_once' = (trees_are_closed by_keys b).once; mode = refl }) esi events).0
