use Rattle.std.proofs.Common.{Contains, IsTrue, rules, subst, sym}
use Rattle.lol_base.specs.BoolLaws.{same_bool}
use Rattle.lol_base.specs.MemberLaws.{among_from_contains, contains_from_among}
use Rattle.lol_reasons.proofs.Nodes.{among_if, if_among}
use Rattle.lol_reasons.proofs.witness.has_id.Goals as goal

pub returns : goal.returns
returns c =
    let id = c.args.id in
    let some : IsTrue c.any.result → Contains c.iter.result id = search rules in
    let any : Contains c.iter.result id → IsTrue c.any.result = search rules in
    same_bool _ _ (λ is. if_among _ id (among_from_contains _ id (subst (λ ns. Contains ns id) c.iter.ensures.items (some is))))
    (λ has. any (subst (λ ns. Contains ns id) (sym c.iter.ensures.items) (contains_from_among _ id (among_if _ id has))))
