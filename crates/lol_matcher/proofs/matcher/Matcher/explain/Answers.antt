use Rattle.std.proofs.Common.{◌≡◌, List, false, true, [], map, Result, Ok, Err, sym, ap, ◌∙◌, refl, subst, ⊎_elim}
use Rattle.std.specs.Prelude.{IfOk, reverse}
use Rattle.lol_reasons.specs.Explanations.{Text, added_by}
use Rattle.lol_reasons.specs.Numbered.{HoldsItems, reason_shown}
use Rattle.lol_stack.specs.Stacks.{element_data_of}
use Rattle.lol_machine.specs.Views.{selectors}
use Rattle.lol_machine.specs.Vms.{Stands}
use Rattle.lol_matcher.specs.Explaining.{AreNumbered, numbers_in, reasons_told}
use Rattle.lol_matcher.specs.Told.{Told, numbers_open}
use Rattle.lol_matcher.specs.declared.open_element.OpenElement.{OpenElement}
use Rattle.lol_matcher.proofs.Finishing.{waits_dropped}
use Rattle.lol_matcher.proofs.Reasoned.{IsEither, WasReported, around_are, heard_is, ids_are, last_case, none_in, none_reported, number_told, numbers_told, reasons_are, some_in}
use Rattle.lol_matcher.proofs.matcher.Matcher.explain.Goals as goal

if_ok : {A E : Type 0} {P Q : A → Type 0} (r : Result A E) → ((x : A) → P x → Q x) → IfOk r P → IfOk r Q
if_ok (Ok x) f h = f x h
if_ok (Err e) f h = h

pub returns-clause-reasons : goal.returns-clause-reasons
returns-clause-reasons g c = rw (← c.self.view_is) (if_ok c.reasons.result (λ told given well texts holds few.
    let t : Told = c.self.inside.past.history.told in
    let keeps = c.self.invariant in
    let opened = c.self.inside.opened in
    let case : IsEither t c.self.inside.matches.items opened = last_case t c.self.inside.matches.items _ opened (keeps.last well) t.asked refl (waits_dropped t c.self.inside.vm c.self.inside.request (keeps.waits well)) in
    ⊎_elim
    (λ (is : WasReported t c.self.inside.matches.items opened).
    let open_is = keeps.numbered ∙ ap numbers_open (keeps.told_open well) in
    given texts (selectors t.ast) t.esi is.before is.tag holds.explainer holds.tree (record {
      stands = subst (Stands (selectors t.ast) t.esi c.self.inside.vm) (heard_is t c.self.inside.matches.items opened is) (keeps.runs well).stands;
      ids_are = c.deref.ensures.value ∙ (c.in_ok-matched.ensures ∙ (ap numbers_in c.as_slice-matches.ensures.value ∙ ids_are t c.self.inside.matches.items opened is));
      number_is = c.saturating_sub-number.ensures ∙ number_told t c.self.inside.matches.items opened is few c.self.inside.tags_told (keeps.counted well);
      numbers_are =
          numbers_told t c.self.inside.matches.items opened is few _ (c.run_laws.ensures.ordered (selectors t.ast) t.esi is.before) _ open_is
          ∙ ap reverse (sym (c.deref-2.ensures.value ∙ (c.in_ok-around.ensures ∙ around_are opened c.open_items.result.now _ (ap (λ items. map (λ (e : OpenElement g.row.T.Denot). e.number) (element_data_of items)) (sym c.open_items.ensures)))));
    })
    ∙ sym (reasons_are t c.self.inside.matches.items opened is texts))
    (λ (none : (c.self.inside.matches.items ≡ []) × ((texts : List Text) → reasons_told texts t ≡ [])). absurd (some_in c.as_slice-matches.result.now (sym c.if-is_empty.ensures) (c.as_slice-matches.ensures.value ∙ none.0)))
    case) c.reasons.ensures)

pub returns-then-is_empty-clause-reasons : goal.returns-then-is_empty-clause-reasons
returns-then-is_empty-clause-reasons g c = rw (← c.self.view_is) (λ well texts holds few.
    let t : Told = c.self.inside.past.history.told in
    let keeps = c.self.invariant in
    let matched = c.self.inside.matches.items in
    let opened = c.self.inside.opened in
    let empty : matched ≡ [] = sym c.as_slice-matches.ensures.value ∙ none_in c.as_slice-matches.result.now (sym c.if-is_empty.ensures) in
    let case : IsEither t matched opened = last_case t matched _ opened (keeps.last well) t.asked refl (waits_dropped t c.self.inside.vm c.self.inside.request (keeps.waits well)) in
    ap (map reason_shown) c.new.ensures.items
    ∙ sym (⊎_elim (λ (is : WasReported t matched opened). none_reported t matched opened is c.item_laws.ensures.named c.item_laws.ensures.one texts holds.tree empty)
    (λ (none : (matched ≡ []) × ((texts : List Text) → reasons_told texts t ≡ [])). none.1 texts) case))
