use Rattle.std.proofs.Common.{ap, sym, ◌∙◌, subst, arith}
use Rattle.lol_reasons.specs.Climbing.{StandsUnder, node_above_from}
use Rattle.lol_reasons.proofs.ClimbingLemmas.{stands_by, stands_at_root, stands_under}
use Rattle.lol_reasons.proofs.node_table.NodeTable.node_above.Goals as goal

pub returns-then-address-roots : goal.returns-then-address-roots
returns-then-address-roots c s paths path closed program at = stands_at_root s paths c.args.program.now closed program c.args.address path at (omega arith, omega arith)

pub returns-in-Some-Some : goal.returns-in-Some-Some
returns-in-Some-Some c s paths path closed program at =
    let given = c.leads_to.ensures c.if-leads_to.true in
    stands_by s paths c.args.program.now closed program c.args.address path at c.in-Some-Some.above given.0 given.1 given.2

pub returns-in_default : goal.returns-in_default
returns-in_default c s paths path closed program at =
    subst (StandsUnder paths path) (sym (c.node_above.ensures ∙ ap (λ l. node_above_from 0 l c.args.address) c.deref-in_default.ensures.value))
    (stands_under s paths c.args.program.now closed program c.args.address path at)
