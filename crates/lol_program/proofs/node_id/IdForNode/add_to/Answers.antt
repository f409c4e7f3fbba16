use Rattle.std.proofs.Common.{ap, subst, ◌∙◌}
use Rattle.lol_memory.specs.Ids.{Ids, HasRoom, ascending, with_id}
use Rattle.lol_program.specs.IdSetLaws.{set_of-ascending}
use Rattle.lol_program.specs.IdsForNodes.{Fits, IsReserved}
use Rattle.lol_program.specs.declared.node_id.IdForNode.{IdForNode}
use Rattle.lol_program.proofs.node_id.IdForNode.add_to.Goals as goal

pub returns-in-Id-clause-no_memory : goal.returns-in-Id-clause-no_memory
returns-in-Id-clause-no_memory c fits =
    c.insert.ensures.no_memory (subst (λ (s : Ids). HasRoom s c.in-Id.id) (set_of-ascending c.args.ids.now) (subst (λ (x : IdForNode). Fits x (ascending c.args.ids.now)) c.in-Id.is fits))

pub returns-else-has_room-clause-added : goal.returns-else-has_room-clause-added
returns-else-has_room-clause-added c =
    let fits = subst (λ (x : IdForNode). IsReserved x → Fits x (ascending c.args.ids.now)) c.in-Reserved.is c.requires tt in
    rw c.in-Reserved.is (fits ∙ ap (λ (s : Ids). with_id s c.in-Reserved.id) (set_of-ascending c.args.ids.now))
