use Rattle.std.proofs.Common.{of_calls, ◌≡◌, ℕ, ◌+◌, ◌<◌, ◌^◌, List, [], ◌∷◌, ◌++◌, ap, sym, subst, ◌∙◌, arith, map, take, drop, length, get_or, inr}
use Rattle.std.proofs.lemmas.Fn.{FoldsTo-push}
use Rattle.std.proofs.lemmas.List.{append_assoc, length-map, length-take-le, map-append, map_push, take-append-drop, take_all, take_more}
use Rattle.lol_machine.specs.AnswerLaws.{answers_append}
use Rattle.lol_machine.specs.Answers.{answers}
use Rattle.lol_machine.specs.Documents.{empty}
use Rattle.lol_machine.specs.Events.{Event}
use Rattle.lol_machine.specs.Refusals.{refused}
use Rattle.lol_machine.specs.Views.{selectors}
use Rattle.lol_vm.specs.RunRefusals.{StopsBeforeLimit, StopsFor}
use Rattle.lol_vm.specs.TagEvents.{answer_of, event_of}
use Rattle.lol_vm.specs.ToldEvents.{WasTold}
use Rattle.lol_vm.specs.declared.events.TagEvent.{TagEvent}
use Rattle.lol_vm.proofs.StoppedRuns.{stops_before_limit, stops_for}
use Rattle.lol_vm.proofs.run.answer_events.Goals as goal

module _ (all : List TagEvent) (n : ℕ) (event : TagEvent) (within : n < length all) (read : event ≡ get_or all n event) where
  abbrev before : List Event
  before = map event_of (take n all)

  abbrev later : List Event
  later = map event_of (drop (n + 1) all)

  -- the events up to one and with it
  front_more : map event_of (take (n + 1) all) ≡ before ++ event_of event ∷ []
  front_more = ap (map event_of) (take_more all n event within ∙ ap (λ (e : TagEvent). take n all ++ e ∷ []) (sym read)) ∙ map_push event_of (take n all) event

  all_are : map event_of all ≡ before ++ event_of event ∷ later
  all_are =
      ap (map event_of) (sym (take-append-drop (n + 1) all))
      ∙ (map-append event_of (take (n + 1) all) (drop (n + 1) all) ∙ (ap (λ es. es ++ later) front_more ∙ append_assoc before (event_of event ∷ []) later))

  before_counts : length before ≡ n
  before_counts = length-map (take n all) event_of ∙ length-take-le n all (omega (arith, within))

pub returns-in-Err : goal.returns-in-Err
returns-in-Err g c =
    let all = c.args.events.now in
    let n = c.loop-number.number in
    let event = c.index-events-number.result in
    let within = c.loop-number-test.true in
    let read = c.index-events-number.is in
    let front = before all n event within read in
    let so_far = c.loop-number.invariant in
    let many = before_counts all n event within read in
    let whole = all_are all n event within read in
    let few : length front < 2 ^ 64 = (let far = c.loop-number.far-number in let end = c.loop-number.end-fits in omega (arith, many, within, far, end)) in
    let cause = c.cause_of.result in
    record {
      again = so_far.callable;
      ok = tt;
      fits = tt;
      refused = λ ast esi a w. so_far.told ast esi a w;
      event = inr within;
      cause = λ ast esi a w.
          let now = so_far.runs ast esi a w in
          let is = stops_for (selectors ast) esi a front (later all n event within read) (event_of event) now.fits c.in-Err.error cause c.cause_of.ensures (c.in-Err.ensures.refused ast esi a front now few) in
          subst (λ k. StopsFor cause k (refused (selectors ast) esi a (map event_of all))) many
          (subst (λ es. StopsFor cause (length front) (refused (selectors ast) esi a es)) (sym whole) is);
      due = λ ast esi a w.
          let now = so_far.runs ast esi a w in
          let is = stops_before_limit (selectors ast) esi a front (later all n event within read) (event_of event) now.fits c.in-Err.error cause c.cause_of.ensures (c.in-Err.ensures.refused ast esi a front now few) in
          subst (λ k. StopsBeforeLimit (selectors ast) esi (map event_of all) cause k (refused (selectors ast) esi a (map event_of all))) many
          (subst (λ es. StopsBeforeLimit (selectors ast) esi es cause (length front) (refused (selectors ast) esi a es)) (sym whole) is);
    }

pub loop-number-preserved : goal.loop-number-preserved
loop-number-preserved g c =
    let all = c.args.events.now in
    let n = c.loop-number.number in
    let event = c.index-events-number.result in
    let within = c.loop-number-test.true in
    let read = c.index-events-number.is in
    let front = before all n event within read in
    let more = front_more all n event within read in
    let many = before_counts all n event within read in
    let few : length front < 2 ^ 64 = (let far = c.loop-number.far-number in let end = c.loop-number.end-fits in omega (arith, many, within, far, end)) in
    record {
      callable = search of_calls;
      told = λ ast esi a w.
          let now = c.loop-number.invariant.runs ast esi a w in
          let told = c.loop-number.invariant.told ast esi a w in
          let goes = c.in-Ok.ensures.answers ast esi a front now few in
          record {
            reports = told.reports ++ c.in-Ok.report ∷ [];
            answered =
                map_push answer_of told.reports c.in-Ok.report
                ∙ ((λ i. told.answered i ++ goes.answered i ∷ [])
                ∙ sym (ap (answers (selectors ast) esi) more ∙ answers_append (selectors ast) esi empty front (event_of event ∷ [])));
            called = FoldsTo-push _ _ _ _ _ _ told.called c.handler.ensures;
          };
      runs = λ ast esi a w.
          let now = c.loop-number.invariant.runs ast esi a w in
          subst (λ es. WasTold ast esi a es c.answer_event.new.matcher) (sym more) (c.in-Ok.ensures.answers ast esi a front now few).goes_on;
    }

pub returns-clause-ok : goal.returns-clause-ok
returns-clause-ok g c = λ ast esi a w.
    let whole = take_all c.loop-number.number c.args.events.now (omega (arith, c.loop-number-test.false)) in
    let told = c.loop-number.invariant.told ast esi a w in
    record { reports = told.reports; answered = told.answered ∙ ap (λ es. answers (selectors ast) esi (map event_of es)) whole; called = told.called }

pub returns-clause-fits : goal.returns-clause-fits
returns-clause-fits g c = λ ast esi a w.
    let whole = take_all c.loop-number.number c.args.events.now (omega (arith, c.loop-number-test.false)) in
    sym (ap (λ es. refused (selectors ast) esi a (map event_of es)) whole) ∙ (c.loop-number.invariant.runs ast esi a w).fits
