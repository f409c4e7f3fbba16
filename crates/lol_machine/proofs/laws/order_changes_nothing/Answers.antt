use Rattle.lol_machine.specs.AnswerLaws.{order_changes_nothing}
use Rattle.lol_machine.proofs.laws.order_changes_nothing.Goals as goal

pub returns : goal.returns
returns c = order_changes_nothing
