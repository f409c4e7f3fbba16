use Rattle.std.proofs.Common.{refl, ap, ◌∙◌}
use Rattle.lol_reasons.specs.Climbing.{node_with_from}
use Rattle.lol_reasons.proofs.Nodes.{holds_at, node_is}
use Rattle.lol_reasons.proofs.node_table.NodeTable.node_with.Goals as goal

pub returns-in-Some : goal.returns-in-Some
returns-in-Some c s paths path closed program alone =
    let given = c.stands_at.ensures c.if-stands_at.true in
    (c.in-Some.address.now, refl, holds_at s paths c.args.program.now closed program path c.args.id alone c.in-Some.address.now given.0 given.1 given.2)

pub returns-in_default : goal.returns-in_default
returns-in_default c s paths path closed program alone =
    node_is s paths c.args.program.now closed program path c.args.id alone c.node_with.result (c.node_with.ensures ∙ ap (λ l. node_with_from 0 l c.args.id) c.deref-in_default.ensures.value)
