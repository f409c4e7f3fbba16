use Rattle.std.proofs.Common.{rules, ◌≡◌, Bool, length, map, ap, ◌∙◌, true≢false, refl, sym, subst, vec_capacity}
use Rattle.lol_base.specs.StartTags.{RangesAreInside, StartTag}
use Rattle.lol_machine.specs.Events.{has_content}
use Rattle.lol_machine.specs.FreeTags.{AreFlat}
use Rattle.lol_machine.specs.ReportRoom.{HoldsEachReport}
use Rattle.lol_machine.specs.Views.{selectors}
use Rattle.lol_machine.specs.Vms.{HasOpen, IsTriedAtMost, data_in, is_asked_for, tries_in}
use Rattle.lol_matcher.specs.Answering.{KeepsOne}
use Rattle.lol_matcher.specs.Keeping.{ForHandedTag, IsRefusal, IsToldAs, Runs, allowed}
use Rattle.lol_matcher.specs.LastLaws.{last_start}
use Rattle.lol_matcher.specs.Noted.{handed, handed_told}
use Rattle.lol_matcher.specs.Refusing.{IsRefusedFor, refusal_after}
use Rattle.lol_matcher.specs.Told.{Told, elements_of, heard, in_word, numbers_open}
use Rattle.lol_matcher.specs.declared.open_element.OpenElement.{OpenElement}
use Rattle.lol_matcher.specs.declared.error.MatcherError.{MatcherError}
use Rattle.lol_matcher.proofs.Handing.{answered_report, told_handed}
use Rattle.lol_matcher.proofs.Numbers.{count_dropped, count_push, numbered_after}
use Rattle.lol_matcher.proofs.Refusals.{is_refusal, keeps_failed, not_failed, still_refusal}
use Rattle.lol_matcher.proofs.matcher.Matcher.start_with.Given as given
use Rattle.lol_matcher.proofs.matcher.Matcher.start_with.Goals as goal
use Rattle.lol_matcher.proofs.matcher.Matcher.start_with.Goals.{After-hand_tag}

-- the machine, once it was told of the tag
module _ (g : given.Over) (c : After-hand_tag g) where
  abbrev t : Told
  t = c.self.inside.past.history.told

  abbrev tag : StartTag
  tag = handed c.args.name.now c.args.ns c.args.aux_info

  runs : Runs (selectors t.ast) t.esi (heard t) c.self.inside.vm c.self.inside.limiter
  runs = c.self.invariant.runs c.if-self.false

  tried : IsTriedAtMost (selectors t.ast) t.esi (heard t) tag (tries_in c.hand_tag.new.vm)
  tried = c.hand_tag.ensures.tried (selectors t.ast) t.esi (heard t) tag runs refl refl (λ by_keys. (refl, refl, refl))

  has_open : Runs (selectors t.ast) t.esi (heard (handed_told t tag)) c.hand_tag.new.vm c.hand_tag.new.limiter → HasOpen c.hand_tag.new.vm (elements_of (handed_told t tag))
  has_open on = c.run_laws.ensures.has_open (selectors t.ast) t.esi c.hand_tag.new.vm (heard (handed_told t tag)) on.stands

  holds : HoldsEachReport (selectors t.ast) (vec_capacity c.self.inside.matches)
  holds = c.self.invariant.room c.if-self.false

  numbered : map (λ (e : OpenElement g.row.T.Denot). e.number) (data_in c.self.inside.vm) ≡ numbers_open (elements_of t)
  numbered = c.self.invariant.numbered ∙ ap numbers_open (c.self.invariant.told_open c.if-self.false)

  counted : c.drop_request.new.tags_told ≡ in_word (length (heard t))
  counted = c.drop_request.ensures.counted ∙ count_dropped (selectors t.ast) t.esi t.events t.asked c.self.inside.vm c.self.inside.request (c.self.invariant.waits c.if-self.false) c.self.inside.tags_told (c.self.invariant.counted c.if-self.false)

  keeps_one : {opened : Bool} → IsToldAs (selectors t.ast) t.esi (heard t) tag (is_asked_for (selectors t.ast) t.esi (heard t) tag) c.drop_request.new.tags_told opened c.hand_tag.new.matches.items (allowed c.self.inside.vm c.self.inside.limiter) c.self.inside.vm c.hand_tag.new.vm c.hand_tag.new.limiter
      → KeepsOne (has_content t.esi tag) (in_word (length (heard t))) c.hand_tag.new.matches.items (data_in c.self.inside.vm) (data_in c.hand_tag.new.vm)
  keeps_one is = subst (λ n. KeepsOne (has_content t.esi tag) n c.hand_tag.new.matches.items (data_in c.self.inside.vm) (data_in c.hand_tag.new.vm)) counted is.kept

  -- it was answered
  answered : {opened : Bool}
      → ForHandedTag c.self.inside.vm c.self.inside.limiter c.args.name.now c.args.ns c.args.aux_info (λ s esi events tag. HoldsEachReport s (vec_capacity c.self.inside.matches) → IsToldAs s esi events tag (is_asked_for s esi events tag) c.drop_request.new.tags_told opened c.hand_tag.new.matches.items (allowed c.self.inside.vm c.self.inside.limiter) c.self.inside.vm c.hand_tag.new.vm c.hand_tag.new.limiter)
      → IsToldAs (selectors t.ast) t.esi (heard t) tag (is_asked_for (selectors t.ast) t.esi (heard t) tag) c.drop_request.new.tags_told opened c.hand_tag.new.matches.items (allowed c.self.inside.vm c.self.inside.limiter) c.self.inside.vm c.hand_tag.new.vm c.hand_tag.new.limiter
  answered told = told (selectors t.ast) t.esi (heard t) tag runs refl refl (refl, refl, refl) holds

  -- it was refused
  module _ (error : MatcherError)
      (refuses : ForHandedTag c.self.inside.vm c.self.inside.limiter c.args.name.now c.args.ns c.args.aux_info (λ s esi events tag. IsRefusedFor error (AreFlat s) (refusal_after s esi (allowed c.self.inside.vm c.self.inside.limiter) events tag))) where
    refused : IsRefusedFor error (AreFlat (selectors t.ast)) (refusal_after (selectors t.ast) t.esi (allowed c.self.inside.vm c.self.inside.limiter) (heard t) tag)
    refused = refuses (selectors t.ast) t.esi (heard t) tag runs refl refl (refl, refl, refl)

    refusal : IsRefusal error
    refusal = is_refusal error _ _ refused

pub invariant_of-self : goal.invariant_of-self
invariant_of-self g c =
    let a = (goal.at.invariant_of-self g c).After-hand_tag in
    let is = answered g a c.in-Ok.ensures.told in
    let on = is.runs in
    let s = selectors (t g a).ast in
    rw (c.then-self-inside.ensures, c.drop_request.ensures.dropped) (record {
      charged = c.in-Ok.ensures.charged c.self.invariant.charged;
      has_open = has_open g a on;
      numbered = numbered_after s (t g a).esi (heard (t g a)) (tag g a) _ _ _ is.reported _ _ (keeps_one g a is) (numbered g a);
      counted = λ ok. c.saturating_add-self-inside.ensures ∙ count_push _ (heard (t g a)) _ (counted g a);
      last = λ ok. last_start s (handed_told (t g a) (tag g a)) _ _ _ (heard (t g a)) (tag g a) _ refl is.reported is.has_opened;
      silent = λ failed. absurd (true≢false (sym failed ∙ c.if-self.false));
      runs = λ ok. on;
      waits = λ ok. tt;
      told_open = λ ok. refl;
      room = λ ok. c.in-Ok.ensures.room (selectors (t g a).ast) (t g a).esi (heard (t g a)) (tag g a) (runs g a) refl refl (refl, refl, refl) (holds g a);
    })

pub invariant_of-self-in-Err : goal.invariant_of-self-in-Err
invariant_of-self-in-Err g c =
    let a = (goal.at.invariant_of-self-in-Err g c).After-hand_tag in
    let s = selectors (t g a).ast in
    keeps_failed (c.in-Err.ensures.charged c.self.invariant.charged)
    (subst (HasOpen c.hand_tag.new.vm) (sym (c.self.invariant.told_open c.if-self.false)) (c.in-Err.ensures.still_open s (t g a).esi (heard (t g a)) (tag g a) (runs g a) refl refl))
    (ap (map (λ (e : OpenElement g.row.T.Denot). e.number)) (c.in-Err.ensures.unchanged s (t g a).esi (heard (t g a)) (tag g a) (runs g a) refl refl) ∙ c.self.invariant.numbered)
    c.clear.ensures.items

pub returns-in-Ok-clause-was_asked : goal.returns-in-Ok-clause-was_asked
returns-in-Ok-clause-was_asked g c =
    let a = (goal.at.returns-in-Ok-clause-was_asked g c).After-hand_tag in
    rw (← c.self.view_is) (c.in-Ok.ensures.asked (selectors (t g a).ast) (t g a).esi (heard (t g a)) (tag g a) (runs g a) refl refl (refl, refl, refl))

pub returns-in-Ok-clause-reported : goal.returns-in-Ok-clause-reported
returns-in-Ok-clause-reported g c =
    let a = (goal.at.returns-in-Ok-clause-reported g c).After-hand_tag in
    rw (← c.self.view_is) (answered_report (selectors (t g a).ast) (t g a).esi (heard (t g a)) (tag g a) c.hand_tag.new.matches.items _ _ (answered g a c.in-Ok.ensures.told).reported)

pub returns-in-Ok-clause-answered : goal.returns-in-Ok-clause-answered
returns-in-Ok-clause-answered g c = rw (← c.self.view_is) (answered g (goal.at.returns-in-Ok-clause-answered g c).After-hand_tag c.in-Ok.ensures.told).reported

pub returns-in-Ok-clause-opens : goal.returns-in-Ok-clause-opens
returns-in-Ok-clause-opens g c =
    let a = (goal.at.returns-in-Ok-clause-opens g c).After-hand_tag in
    let is = answered g a c.in-Ok.ensures.told in
    rw (← c.self.view_is) (record { opened = is.has_opened; kept = keeps_one g a is })

pub returns-in-Ok-clause-ok : goal.returns-in-Ok-clause-ok
returns-in-Ok-clause-ok g c =
    told_handed (handed c.args.name.now c.args.ns c.args.aux_info) _ _ _ _ c.self.view_is c.then-self-inside.ensures refl refl c.in-Ok.ensures.maximum c.in-Ok.ensures.bytes refl

pub returns-in-Ok-clause-fits : goal.returns-in-Ok-clause-fits
returns-in-Ok-clause-fits g c = rw (← c.self.view_is) (answered g (goal.at.returns-in-Ok-clause-fits g c).After-hand_tag c.in-Ok.ensures.told).fits

pub returns-in-Err-clause-failed : goal.returns-in-Err-clause-failed
returns-in-Err-clause-failed g c = not_failed c.self.view_is c.if-self.false (refusal g (goal.at.returns-in-Err-clause-failed g c).After-hand_tag c.in-Err.error c.in-Err.ensures.refused)

pub returns-in-Err-clause-outside : goal.returns-in-Err-clause-outside
returns-in-Err-clause-outside g c =
    let a = (goal.at.returns-in-Err-clause-outside g c).After-hand_tag in
    let inside : RangesAreInside c.args.aux_info = search rules in
    (λ is. absurd (still_refusal (refusal g a c.in-Err.error c.in-Err.ensures.refused) is), λ outside. absurd (outside.1 inside))

pub returns-in-Err-clause-asked : goal.returns-in-Err-clause-asked
returns-in-Err-clause-asked g c = λ is. absurd (still_refusal (refusal g (goal.at.returns-in-Err-clause-asked g c).After-hand_tag c.in-Err.error c.in-Err.ensures.refused) is)

pub returns-in-Err-clause-unchanged : goal.returns-in-Err-clause-unchanged
returns-in-Err-clause-unchanged g c = λ other. absurd (other (refusal g (goal.at.returns-in-Err-clause-unchanged g c).After-hand_tag c.in-Err.error c.in-Err.ensures.refused))

pub returns-in-Err-clause-refused : goal.returns-in-Err-clause-refused
returns-in-Err-clause-refused g c = rw (← c.self.view_is) (λ refusal. refused g (goal.at.returns-in-Err-clause-refused g c).After-hand_tag c.in-Err.error c.in-Err.ensures.refused)

pub returns-in-Err-clause-after : goal.returns-in-Err-clause-after
returns-in-Err-clause-after g c =
    let a = (goal.at.returns-in-Err-clause-after g c).After-hand_tag in
    let kept = c.in-Err.ensures.unchanged (selectors (t g a).ast) (t g a).esi (heard (t g a)) (tag g a) (runs g a) refl refl in
    λ refusal. search (rules, kept)

pub returns-in-Err-clause-tried : goal.returns-in-Err-clause-tried
returns-in-Err-clause-tried g c = rw (← c.self.view_is) (λ refusal. tried g (goal.at.returns-in-Err-clause-tried g c).After-hand_tag)
