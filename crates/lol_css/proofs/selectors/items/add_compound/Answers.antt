use Rattle.std.proofs.Common.{Ok, ap}
use Rattle.lol_css.specs.Trees as trees
use Rattle.lol_css.proofs.TreeRows.{item-push}
use Rattle.lol_css.proofs.selectors.items.add_compound.Goals as goal

pub returns-in_ok-push-in-Ok-Ok : goal.returns-in_ok-push-in-Ok-Ok
returns-in_ok-push-in-Ok-Ok c =
    rw (c.in-Ok-Ok.is-0, c.in-Ok-Ok.is-1, c.in-Ok.is)
    (ap (λ (i : trees.Item). Ok i) (item-push c.in-Ok.item c.push.new.self c.in-Ok-Ok.combinator c.in-Ok-Ok.compound c.in_ok-push-in-Ok-Ok.ensures.items))
