use Rattle.std.proofs.Common.{◌≡◌, rules, sym, ap, subst, ◌∙◌}
use Rattle.lol_memory.specs.Ids.{Ids, HasRoom, with_id}
use Rattle.lol_program.specs.IdSetLaws.{set_of-ascending}
use Rattle.lol_program.proofs.node_id.IdForNode.reserve.Goals as goal

pub returns-then-has_room-clause-fits : goal.returns-then-has_room-clause-fits
returns-then-has_room-clause-fits c = subst (λ (s : Ids). HasRoom s c.args.id) (sym (set_of-ascending c.args.ids.now)) (c.has_room.ensures.0 c.if-has_room.true)

pub returns-clause-fits : goal.returns-clause-fits
returns-clause-fits c =
    let set_is : c.insert.new.self ≡ with_id c.args.ids.now c.args.id = search rules in
    set_is ∙ ap (λ (s : Ids). with_id s c.args.id) (sym (set_of-ascending c.args.ids.now))
