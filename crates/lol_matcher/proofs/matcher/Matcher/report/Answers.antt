use Rattle.std.proofs.Common.{◌≡◌, ◌≤◌, [], List, length, sym, ap, ◌∙◌, refl, ⊎_elim, arith, vec_capacity}
use Rattle.std.proofs.lemmas.List.{length-map}
use Rattle.lol_base.specs.Ascending.{ascending_once}
use Rattle.lol_reasons.specs.Explanations.{Text}
use Rattle.lol_reasons.specs.Numbered.{items_of}
use Rattle.lol_reasons.specs.ReasonLaws.{ids_of_reasons}
use Rattle.lol_machine.specs.Answers.{document}
use Rattle.lol_machine.specs.Documents.{element_of}
use Rattle.lol_machine.specs.Views.{match_of, selectors}
use Rattle.lol_matcher.specs.Explaining.{ids_under, numbers_in, reasons_told}
use Rattle.lol_matcher.specs.Told.{Told}
use Rattle.lol_matcher.proofs.Finishing.{waits_dropped}
use Rattle.lol_matcher.proofs.Reasoned.{IsEither, WasReported, ids_told, last_case}
use Rattle.lol_matcher.proofs.matcher.Matcher.report.Goals as goal

pub returns-clause-reported : goal.returns-clause-reported
returns-clause-reported g c = rw (← c.self.view_is) (λ room well texts holds.
    let t : Told = c.self.inside.past.history.told in
    let keeps = c.self.invariant in
    let matched = c.self.inside.matches.items in
    let opened = c.self.inside.opened in
    let items = items_of c.args.explainer.now in
    let case : IsEither t matched opened = last_case t matched _ opened (keeps.last well) t.asked refl (waits_dropped t c.self.inside.vm c.self.inside.request (keeps.waits well)) in
    let few : length matched ≤ vec_capacity c.args.ids.now = ⊎_elim
    (λ (r : WasReported t matched opened).
    let d = document (selectors t.ast) t.esi r.before in
    grind (arith, length-map matched match_of, ap length r.report_is, room t.esi (element_of d r.tag) d.open_elements))
    (λ (none : (matched ≡ []) × ((texts : List Text) → reasons_told texts t ≡ [])). grind (arith, ap length none.0)) case in
    let ids : ids_under items (numbers_in matched) ≡ ids_of_reasons (reasons_told texts t) =
    ⊎_elim (λ (r : WasReported t matched opened). ids_told t matched opened r c.item_laws.ensures.named c.item_laws.ensures.one texts holds.tree items holds.explainer)
    (λ (none : (matched ≡ []) × ((texts : List Text) → reasons_told texts t ≡ [])). ap (λ m. ids_under items (numbers_in m)) none.0 ∙ sym (ap ids_of_reasons (none.1 texts))) case in
    let same = c.as_slice.ensures.value in
    c.list_ids.ensures.listed (rw same few) ∙ ap ascending_once (ap (λ m. ids_under items (numbers_in m)) same ∙ ids))
