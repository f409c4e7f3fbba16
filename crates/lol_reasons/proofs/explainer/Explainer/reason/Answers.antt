use Rattle.std.proofs.Common.{Some, refl, sym, ap, ◌∙◌}
use Rattle.std.specs.Prelude.{slice_get}
use Rattle.std.specs.Option.{option_map}
use Rattle.std.proofs.lemmas.Option.{slice_get_read}
use Rattle.lol_reasons.specs.Explanations.{added_by, reason_by}
use Rattle.lol_reasons.proofs.Telling.{item_alone, same_reason}
use Rattle.lol_reasons.proofs.explainer.Explainer.reason.Goals as goal

pub returns-in_default-2 : goal.returns-in_default-2
returns-in_default-2 g c texts s paths e around a known has inside same at fits =
    let witness = c.in_ok-witness.ensures s paths a.path e around inside (item_alone texts s has c.args.own_id a at) fits same in
    ap (option_map (reason_by a)) (witness ∙ ap (option_map (λ w. w.items)) c.in_default-2.is)

pub returns : goal.returns
returns g c texts s paths e around a known has inside same at fits =
    let witness = c.in_ok-witness.ensures s paths a.path e around inside (item_alone texts s has c.args.own_id a at) fits same in
    let found = c.in-Some.ensures.lookup in
    ap (option_map (reason_by a)) (witness ∙ ap (option_map (λ w. w.items)) c.in-Some-2.is)
    ∙ ap Some (same_reason c.args.self.now.items.items (added_by texts) c.args.own_id c.in-Some.item.now a c.in-Some-2.witness.items known (ap (λ l. slice_get l c.args.own_id) (sym c.deref.ensures.value) ∙ slice_get_read c.deref.result.now _ c.args.own_id c.in-Some.item.now refl found.3.0 found.1) at)
