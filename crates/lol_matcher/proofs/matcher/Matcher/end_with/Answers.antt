use Rattle.std.proofs.Common.{◌≡◌, false, ◌∙◌, refl, sym, ap, subst}
use Rattle.lol_machine.specs.Documents.{Document}
use Rattle.lol_machine.specs.Events.{End}
use Rattle.lol_machine.specs.ReportRoom.{HoldsEachReport}
use Rattle.lol_machine.specs.Views.{selectors}
use Rattle.lol_machine.specs.Vms.{open_after}
use Rattle.lol_matcher.specs.LastLaws.{last_end}
use Rattle.lol_matcher.specs.Noted.{ended_told}
use Rattle.lol_matcher.specs.Told.{History, elements_of, heard}
use Rattle.lol_matcher.proofs.Numbers.{count_dropped, count_push, numbered_closed, numbered_left}
use Rattle.lol_matcher.proofs.Running.{later_document}
use Rattle.lol_matcher.proofs.matcher.Matcher.end_with.Goals as goal

pub invariant_of-self : goal.invariant_of-self
invariant_of-self g c =
    let h = c.self.inside.past.history in
    let keeps = c.self.invariant in
    let s = selectors h.told.ast in
    rw (c.then-self-inside.ensures, c.drop_request.ensures.dropped) (record {
      charged = c.end_tag.ensures.charged c.self.inside.limiter keeps.charged;
      has_open = c.end_tag.ensures.still_open h.open_elements keeps.has_open;
      numbered = numbered_left c.args.name.now h.open_elements _ _ (c.end_tag.ensures.kept h.open_elements keeps.has_open) keeps.numbered;
      counted = λ ok.
          c.saturating_add-self-inside.ensures
          ∙ count_push _ (heard h.told) _ (c.drop_request.ensures.counted ∙ count_dropped s h.told.esi h.told.events h.told.asked c.self.inside.vm c.self.inside.request (keeps.waits ok) c.self.inside.tags_told (keeps.counted ok));
      last = λ ok. last_end s (ended_told h.told c.args.name.now) _ _ _ (heard h.told) c.args.name.now refl c.clear.ensures.items refl;
      silent = λ failed. c.clear.ensures.items;
      runs = λ ok. c.end_tag.ensures.runs (selectors h.told.ast) h.told.esi (heard h.told) c.self.inside.limiter (keeps.runs ok);
      waits = λ ok. tt;
      told_open = λ ok. ap (open_after c.args.name.now) (keeps.told_open ok) ∙ sym (ap (λ (d : Document). d.open_elements) (later_document (selectors h.told.ast) h.told.esi (heard h.told) (End c.args.name.now)));
      room = λ ok. subst (HoldsEachReport (selectors h.told.ast)) (sym c.clear.ensures.capacity) (keeps.room ok);
    })

pub returns-clause-ended : goal.returns-clause-ended
returns-clause-ended g c =
    let h = c.self.inside.past.history in
    let history = c.then-self-inside.ensures in
    let kept = c.end_tag.ensures.kept h.open_elements c.self.invariant.has_open in
    rw (← c.self.view_is) (λ i. record {
      told = (history i).told;
      max_memory = c.self.inside.limiter.maximum;
      element_bytes = c.end_tag.ensures.bytes i;
      failed = c.self.inside.failed;
      matched = c.clear.ensures.items i;
      tries = c.end_tag.ensures.tries i;
      opened = false;
      open_elements = (history i).open_elements;
      kept = kept i;
    })

pub returns-clause-called : goal.returns-clause-called
returns-clause-called g c = rw (← c.self.view_is) (c.end_tag.ensures.called c.self.inside.past.history.open_elements c.self.invariant.has_open)

pub returns-clause-numbered : goal.returns-clause-numbered
returns-clause-numbered g c = rw (← c.self.view_is) (numbered_closed c.args.name.now c.self.inside.past.history.open_elements _ c.self.invariant.numbered)

pub returns-clause-open : goal.returns-clause-open
returns-clause-open g c = λ well.
    let h = c.self.inside.past.history in
    let ok : c.self.inside.failed ≡ false = ap (λ m. m.failed) c.self.view_is ∙ well in
    let history = c.then-self-inside.ensures in
    let later = ap (open_after c.args.name.now) (c.self.invariant.told_open ok) ∙ sym (ap (λ (d : Document). d.open_elements) (later_document (selectors h.told.ast) h.told.esi (heard h.told) (End c.args.name.now))) in
    ap (λ (h : History). h.open_elements) history ∙ (later ∙ sym (ap (λ (h : History). elements_of h.told) history))
