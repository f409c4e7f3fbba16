use Rattle.std.proofs.lemmas.Result.{on_ok_weaker}
use Rattle.lol_examples.proofs.opening.open.Goals as goal

pub returns-clause-opened : goal.returns-clause-opened
returns-clause-opened g c = on_ok_weaker c.push_item.result (λ pushed. (c.new.result, c.new.ensures, pushed)) c.push_item.ensures.ok
