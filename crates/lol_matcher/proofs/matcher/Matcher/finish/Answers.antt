use Rattle.std.proofs.Common.{rules, ◌≡◌, [], ◌∷◌, ◌++◌, length, map, Bool, true, true≢false, Some, None, refl, sym, ap, subst, ◌∙◌, vec_capacity}
use Rattle.lol_base.specs.StartTags.{RangesAreInside, StartTag}
use Rattle.lol_machine.specs.Answers.{document}
use Rattle.lol_machine.specs.Events.{Start, has_content}
use Rattle.lol_machine.specs.FreeTags.{AreFlat}
use Rattle.lol_machine.specs.ReportRoom.{HoldsEachReport}
use Rattle.lol_machine.specs.Views.{selectors, tag_of}
use Rattle.lol_machine.specs.Vms.{HasOpen, IsPending, IsTriedAtMost, data_in, tries_in}
use Rattle.lol_reasons.specs.AskedRuns.{bare_tag}
use Rattle.lol_matcher.specs.Answering.{KeepsOne}
use Rattle.lol_matcher.specs.Keeping.{ForRequest, IsRefusal, IsToldAs, Runs, RunsPast, allowed, ids_of}
use Rattle.lol_matcher.specs.LastLaws.{last_start}
use Rattle.lol_matcher.specs.Noted.{finished, finished_told}
use Rattle.lol_matcher.specs.Refusing.{IsRefusedFor, refusal_after}
use Rattle.lol_matcher.specs.Told.{Told, elements_of, heard, in_word, numbers_open, with_dropped}
use Rattle.lol_matcher.specs.declared.open_element.OpenElement.{OpenElement}
use Rattle.lol_matcher.specs.declared.error.MatcherError.{MatcherError}
use Rattle.lol_matcher.proofs.Finishing.{IsWaiting, runs_past, waiting}
use Rattle.lol_matcher.proofs.Numbers.{count_push, numbered_after, open_after_dropped}
use Rattle.lol_matcher.proofs.Refusals.{is_refusal, not_failed, still_refusal}
use Rattle.lol_matcher.proofs.matcher.Matcher.finish.Given as given
use Rattle.lol_matcher.proofs.matcher.Matcher.finish.Goals as goal
use Rattle.lol_matcher.proofs.matcher.Matcher.finish.Goals.{After-finish_tag}

some_isnt_none : {A : Type 0} {x : A} → Some x ≡ None → ⊥
some_isnt_none is = cc

-- the tag that waited, once the machine was told its attributes
module _ (g : given.Over) (c : After-finish_tag g) where
  abbrev t : Told
  t = c.self.inside.past.history.told

  waits : IsWaiting t c.self.inside.vm c.in-Some.request
  waits = waiting t c.self.inside.vm c.in-Some.request c.self.inside.request (sym c.take.ensures.value ∙ c.in-Some.is) (c.self.invariant.waits c.if-self.false)

  abbrev tag : StartTag
  tag = tag_of waits.name waits.namespace c.args.aux_info true

  past : RunsPast (selectors t.ast) t.esi t.events c.self.inside.vm c.self.inside.limiter
  past = runs_past t c.self.inside.vm c.in-Some.request c.self.inside.limiter waits (c.self.invariant.runs c.if-self.false)

  pending : IsPending ids_of (selectors t.ast) t.esi t.events tag c.self.inside.vm c.in-Some.request
  pending = waits.pending tag refl refl

  tried : IsTriedAtMost (selectors t.ast) t.esi t.events tag (tries_in c.finish_tag.new.vm)
  tried = c.finish_tag.ensures.tried (selectors t.ast) t.esi t.events tag pending (λ by_keys. (refl, refl, refl))

  holds : HoldsEachReport (selectors t.ast) (vec_capacity c.self.inside.matches)
  holds = c.self.invariant.room c.if-self.false

  counted : c.self.inside.tags_told ≡ in_word (length t.events)
  counted = c.self.invariant.counted c.if-self.false

  -- as long as it waited it was heard as dropped
  abbrev bare : StartTag
  bare = bare_tag waits.name waits.namespace

  numbered : map (λ (e : OpenElement g.row.T.Denot). e.number) (data_in c.self.inside.vm) ≡ numbers_open (document (selectors t.ast) t.esi t.events).open_elements
  numbered =
      c.self.invariant.numbered
      ∙ (ap numbers_open (c.self.invariant.told_open c.if-self.false)
      ∙ (ap (λ asked. numbers_open (document (selectors t.ast) t.esi (with_dropped t.events asked)).open_elements) waits.asked
      ∙ ap numbers_open (open_after_dropped (selectors t.ast) t.esi t.events bare (waits.pending bare refl refl).asks refl)))

  heard_is : heard (finished_told t c.args.aux_info) ≡ t.events ++ Start tag ∷ []
  heard_is = ap (λ asked. t.events ++ finished asked c.args.aux_info) waits.asked

  keeps_one : {opened : Bool} → IsToldAs (selectors t.ast) t.esi t.events tag true c.self.inside.tags_told opened c.finish_tag.new.matches.items (allowed c.self.inside.vm c.self.inside.limiter) c.self.inside.vm c.finish_tag.new.vm c.finish_tag.new.limiter
      → KeepsOne (has_content t.esi tag) (in_word (length t.events)) c.finish_tag.new.matches.items (data_in c.self.inside.vm) (data_in c.finish_tag.new.vm)
  keeps_one is = subst (λ n. KeepsOne (has_content t.esi tag) n c.finish_tag.new.matches.items (data_in c.self.inside.vm) (data_in c.finish_tag.new.vm)) counted is.kept

  module _ (runs : Runs (selectors t.ast) t.esi (t.events ++ Start tag ∷ []) c.finish_tag.new.vm c.finish_tag.new.limiter) where
    runs_on : Runs (selectors t.ast) t.esi (t.events ++ finished t.asked c.args.aux_info) c.finish_tag.new.vm c.finish_tag.new.limiter
    runs_on = subst (λ asked. Runs (selectors t.ast) t.esi (t.events ++ finished asked c.args.aux_info) c.finish_tag.new.vm c.finish_tag.new.limiter) (sym waits.asked) runs

    has_open : HasOpen c.finish_tag.new.vm (elements_of (finished_told t c.args.aux_info))
    has_open = c.run_laws.ensures.has_open (selectors t.ast) t.esi c.finish_tag.new.vm (t.events ++ finished t.asked c.args.aux_info) runs_on.stands

  -- it was answered
  answered : {opened : Bool}
      → ForRequest c.self.inside.vm c.self.inside.limiter c.in-Some.request c.args.aux_info (λ s esi events tag. HoldsEachReport s (vec_capacity c.self.inside.matches) → IsToldAs s esi events tag true c.self.inside.tags_told opened c.finish_tag.new.matches.items (allowed c.self.inside.vm c.self.inside.limiter) c.self.inside.vm c.finish_tag.new.vm c.finish_tag.new.limiter)
      → IsToldAs (selectors t.ast) t.esi t.events tag true c.self.inside.tags_told opened c.finish_tag.new.matches.items (allowed c.self.inside.vm c.self.inside.limiter) c.self.inside.vm c.finish_tag.new.vm c.finish_tag.new.limiter
  answered told = told (selectors t.ast) t.esi t.events tag past pending (refl, refl, refl) holds

  -- it was refused
  module _ (error : MatcherError)
      (refuses : ForRequest c.self.inside.vm c.self.inside.limiter c.in-Some.request c.args.aux_info (λ s esi events tag. IsRefusedFor error (AreFlat s) (refusal_after s esi (allowed c.self.inside.vm c.self.inside.limiter) events tag))) where
    refused : IsRefusedFor error (AreFlat (selectors t.ast)) (refusal_after (selectors t.ast) t.esi (allowed c.self.inside.vm c.self.inside.limiter) t.events tag)
    refused = refuses (selectors t.ast) t.esi t.events tag past pending (refl, refl, refl)

    refusal : IsRefusal error
    refusal = is_refusal error _ _ refused

pub invariant_of-self-in-Ok : goal.invariant_of-self-in-Ok
invariant_of-self-in-Ok g c =
    let a = (goal.at.invariant_of-self-in-Ok g c).After-finish_tag in
    let is = answered g a c.in-Ok.ensures.told in
    let runs = is.runs in
    let s = selectors (t g a).ast in
    let later = finished_told (t g a) c.args.aux_info in
    rw (c.then-self-inside.ensures, c.take.ensures.after) (record {
      charged = c.in-Ok.ensures.charged c.self.invariant.charged;
      has_open = has_open g a runs;
      numbered = numbered_after s (t g a).esi (t g a).events (tag g a) _ true _ is.reported _ _ (keeps_one g a is) (numbered g a) ∙ sym (ap (λ events. numbers_open (document s (t g a).esi events).open_elements) (heard_is g a));
      counted = λ ok. c.saturating_add-self-inside.ensures ∙ (count_push _ (t g a).events _ (counted g a) ∙ sym (ap (λ events. in_word (length events)) (heard_is g a)));
      last = λ ok. last_start s later _ _ _ (t g a).events (tag g a) true (heard_is g a) is.reported is.has_opened;
      silent = λ failed. absurd (true≢false (sym failed ∙ c.if-self.false));
      runs = λ ok. runs_on g a runs;
      waits = λ ok. tt;
      told_open = λ ok. refl;
      room = λ ok. c.in-Ok.ensures.room (selectors (t g a).ast) (t g a).esi (t g a).events (tag g a) (past g a) (pending g a) (refl, refl, refl) (holds g a);
    })

pub returns-in-Ok-clause-reported : goal.returns-in-Ok-clause-reported
returns-in-Ok-clause-reported g c =
    let a = (goal.at.returns-in-Ok-clause-reported g c).After-finish_tag in
    rw (← c.self.view_is, (waits g a).asked) (answered g a c.in-Ok.ensures.told).reported

pub returns-in-Ok-clause-opens : goal.returns-in-Ok-clause-opens
returns-in-Ok-clause-opens g c =
    let a = (goal.at.returns-in-Ok-clause-opens g c).After-finish_tag in
    let is = answered g a c.in-Ok.ensures.told in
    rw (← c.self.view_is, (waits g a).asked) (record { opened = is.has_opened; kept = keeps_one g a is })

pub returns-in-Ok-clause-fits : goal.returns-in-Ok-clause-fits
returns-in-Ok-clause-fits g c =
    let a = (goal.at.returns-in-Ok-clause-fits g c).After-finish_tag in
    rw (← c.self.view_is, (waits g a).asked) (answered g a c.in-Ok.ensures.told).fits

pub returns-in-Err-clause-failed : goal.returns-in-Err-clause-failed
returns-in-Err-clause-failed g c = not_failed c.self.view_is c.if-self.false (refusal g (goal.at.returns-in-Err-clause-failed g c).After-finish_tag c.in-Err.error c.in-Err.ensures.refused)

pub returns-in-Err-clause-unchanged : goal.returns-in-Err-clause-unchanged
returns-in-Err-clause-unchanged g c = λ other. absurd (other (refusal g (goal.at.returns-in-Err-clause-unchanged g c).After-finish_tag c.in-Err.error c.in-Err.ensures.refused))

pub returns-in-Err-clause-refused : goal.returns-in-Err-clause-refused
returns-in-Err-clause-refused g c =
    let a = (goal.at.returns-in-Err-clause-refused g c).After-finish_tag in
    rw (← c.self.view_is, (waits g a).asked) (λ refusal. refused g a c.in-Err.error c.in-Err.ensures.refused)

pub returns-in-Err-clause-outside : goal.returns-in-Err-clause-outside
returns-in-Err-clause-outside g c =
    let a = (goal.at.returns-in-Err-clause-outside g c).After-finish_tag in
    let inside : RangesAreInside c.args.aux_info = search rules in
    (λ is. absurd (still_refusal (refusal g a c.in-Err.error c.in-Err.ensures.refused) is), λ outside. absurd (outside.1 inside))

pub returns-in-Err-clause-not_asked : goal.returns-in-Err-clause-not_asked
returns-in-Err-clause-not_asked g c =
    let a = (goal.at.returns-in-Err-clause-not_asked g c).After-finish_tag in
    let waited = ap (λ m. m.told.asked) (sym c.self.view_is) ∙ (waits g a).asked in
    (λ is. absurd (still_refusal (refusal g a c.in-Err.error c.in-Err.ensures.refused) is), λ none. absurd (some_isnt_none (sym waited ∙ none.2)))

pub returns-in-Err-clause-tried : goal.returns-in-Err-clause-tried
returns-in-Err-clause-tried g c =
    let a = (goal.at.returns-in-Err-clause-tried g c).After-finish_tag in
    rw (← c.self.view_is, (waits g a).asked) (λ refusal. tried g a)

pub returns-in_default-clause-well : goal.returns-in_default-clause-well
returns-in_default-clause-well c = search rules
