use Rattle.std.proofs.Common.{◌∷◌, [], map, get_or, Contains, sym, ap, ◌∙◌, subst}
use Rattle.std.specs.Option.{option_map}
use Rattle.std.proofs.lemmas.List.{map-append, take_all}
use Rattle.lol_base.specs.ListLaws.{get_or-any}
use Rattle.lol_reasons.specs.Numbered.{reason_shown}
use Rattle.lol_reasons.proofs.Telling.{all_told, matched_item, reason_by_item, told_none, told_some, told_under}
use Rattle.lol_reasons.proofs.explainer.Explainer.reasons_inside.Goals as goal
use Rattle.lol_reasons.proofs.explainer.Explainer.reasons_inside.Goals.{in-Some+in_ok-push, in_default}

pub loop-own_id-preserved : goal.loop-own_id-preserved
loop-own_id-preserved g c texts s paths e around h inside same =
    let ids = c.args.matched.now in
    let i = c.loop-own_id.own_id-index in
    let within = c.loop-own_id-test.true in
    let k = get_or ids i 0 in
    let at = get_or-any ids i k 0 within in
    let item = matched_item texts s h.items e around k (subst (λ l. Contains l k) h.ids_are (i, within, at)) in
    let before = c.loop-own_id.invariant texts s paths e around h inside same in
    let under = ap (reason_by_item texts e around) item.at ∙ c.in_ok-reason.ensures texts s paths e around item.by h.known h.items inside same item.at item.fits in
    elim c.match-branch-2.branch [
      | in-Some+in_ok-push w ↦
          ap (λ v. map reason_shown v.items) w.told-is ∙ ap (map reason_shown) w.in_ok-push.ensures.items ∙ map-append reason_shown c.loop-own_id.told.items (_ ∷ [])
          ∙ told_some texts e around ids i k (map reason_shown c.loop-own_id.told.items) _ within (sym at) before (under ∙ ap (option_map reason_shown) w.in-Some.is)
      | in_default w ↦
          ap (λ v. map reason_shown v.items) w.told-is
          ∙ told_none texts e around ids i k (map reason_shown c.loop-own_id.told.items) within (sym at) before (under ∙ ap (option_map reason_shown) w.in_default.is)
    ]

pub returns : goal.returns
returns g c texts s paths e around h inside same =
    c.loop-own_id.invariant texts s paths e around h inside same
    ∙ ap (told_under texts e around) (take_all c.loop-own_id.own_id-index c.args.matched.now c.loop-own_id-test.false ∙ h.ids_are)
    ∙ all_told texts e around s h.items
