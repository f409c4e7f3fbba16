use Rattle.std.proofs.Common.{◌≡◌, [], ◌∷◌, ◌++◌, length, map, ap, ◌∙◌, false, true≢false, refl, sym, subst, vec_capacity}
use Rattle.lol_base.specs.StartTags.{StartTag}
use Rattle.lol_machine.specs.Answers.{document}
use Rattle.lol_reasons.specs.AskedRuns.{bare_tag}
use Rattle.lol_machine.specs.Events.{Start, has_content}
use Rattle.lol_machine.specs.ReportRoom.{HoldsEachReport}
use Rattle.lol_machine.specs.Views.{selectors}
use Rattle.lol_machine.specs.Vms.{HasOpen, IsTriedAtMost, data_in, tries_in}
use Rattle.lol_matcher.specs.Answering.{KeepsOne}
use Rattle.lol_matcher.specs.Keeping.{ForTag, Runs, Tells, allowed}
use Rattle.lol_matcher.specs.LastLaws.{last_dropped, last_start}
use Rattle.lol_matcher.specs.Noted.{asked_told, started_told}
use Rattle.lol_matcher.specs.Told.{Told, elements_of, heard, in_word, numbers_open}
use Rattle.lol_matcher.specs.declared.open_element.OpenElement.{OpenElement}
use Rattle.lol_matcher.specs.declared.tags.Answered.{Answered}
use Rattle.lol_matcher.proofs.Numbers.{count_dropped, count_push, numbered_after, open_after_dropped}
use Rattle.lol_matcher.proofs.Refusals.{is_refusal, not_failed}
use Rattle.lol_matcher.proofs.matcher.Matcher.start.Given as given
use Rattle.lol_matcher.proofs.matcher.Matcher.start.Goals as goal
use Rattle.lol_matcher.proofs.matcher.Matcher.start.Goals.{After-start_tag}

-- the machine, once it was told of the tag
module _ (g : given.Over) (c : After-start_tag g) where
  abbrev t : Told
  t = c.self.inside.past.history.told

  abbrev bare : StartTag
  bare = bare_tag c.args.name.now c.args.ns

  runs : Runs (selectors t.ast) t.esi (heard t) c.self.inside.vm c.self.inside.limiter
  runs = c.self.invariant.runs c.if-self.false

  has_open : Runs (selectors t.ast) t.esi (heard t ++ Start bare ∷ []) c.start_tag.new.vm c.start_tag.new.limiter → HasOpen c.start_tag.new.vm (document (selectors t.ast) t.esi (heard t ++ Start bare ∷ [])).open_elements
  has_open on = c.run_laws.ensures.has_open (selectors t.ast) t.esi c.start_tag.new.vm (heard t ++ Start bare ∷ []) on.stands

  -- whatever its attributes are
  abbrev ForEach : (StartTag → Type 0) → Type 0
  ForEach holds = (tag : StartTag) → tag.name ≡ c.args.name.now → tag.namespace ≡ c.args.ns → holds tag

  tried : ForEach (λ tag. IsTriedAtMost (selectors t.ast) t.esi (heard t) tag (tries_in c.start_tag.new.vm))
  tried tag named spaced = c.start_tag.ensures.tried (selectors t.ast) t.esi (heard t) tag runs named spaced

  holds : HoldsEachReport (selectors t.ast) (vec_capacity c.self.inside.matches)
  holds = c.self.invariant.room c.if-self.false

  numbered : map (λ (e : OpenElement g.row.T.Denot). e.number) (data_in c.self.inside.vm) ≡ numbers_open (elements_of t)
  numbered = c.self.invariant.numbered ∙ ap numbers_open (c.self.invariant.told_open c.if-self.false)

  counted : c.drop_request.new.tags_told ≡ in_word (length (heard t))
  counted = c.drop_request.ensures.counted ∙ count_dropped (selectors t.ast) t.esi t.events t.asked c.self.inside.vm c.self.inside.request (c.self.invariant.waits c.if-self.false) c.self.inside.tags_told (c.self.invariant.counted c.if-self.false)

  abbrev IsTold : Answered g.row.T.Denot → StartTag → Type 0
  IsTold answer tag = Tells (selectors t.ast) t.esi (heard t) tag c.drop_request.new.tags_told answer c.start_tag.new.matches.items (allowed c.self.inside.vm c.self.inside.limiter) c.self.inside.vm c.start_tag.new.vm c.start_tag.new.limiter

  tells : {answer shown : Answered g.row.T.Denot} → answer ≡ shown
      → ForTag c.self.inside.vm c.self.inside.limiter c.args.name.now c.args.ns (λ s esi events tag. HoldsEachReport s (vec_capacity c.self.inside.matches) → Tells s esi events tag c.drop_request.new.tags_told answer c.start_tag.new.matches.items (allowed c.self.inside.vm c.self.inside.limiter) c.self.inside.vm c.start_tag.new.vm c.start_tag.new.limiter)
      → ForEach (IsTold shown)
  tells is told tag named spaced = subst (λ answer. IsTold answer tag) is (told (selectors t.ast) t.esi (heard t) tag runs named spaced holds)

pub returns-in-Err-clause-failed : goal.returns-in-Err-clause-failed
returns-in-Err-clause-failed g c =
    let a = (goal.at.returns-in-Err-clause-failed g c).After-start_tag in
    not_failed c.self.view_is c.if-self.false (is_refusal c.in-Err.error _ _ (c.in-Err.ensures.refused (selectors (t g a).ast) (t g a).esi (heard (t g a)) (bare g a) (runs g a) refl refl))

pub invariant_of-self : goal.invariant_of-self
invariant_of-self g c =
    let a = (goal.at.invariant_of-self g c).After-start_tag in
    let is = tells g a c.in-Ok-Reported.field-0-is c.in-Ok-Reported.ensures.told (bare g a) refl refl in
    let on = is.runs in
    let s = selectors (t g a).ast in
    rw (c.then-self-inside.ensures, c.drop_request.ensures.dropped) (record {
      charged = c.in-Ok-Reported.ensures.charged c.self.invariant.charged;
      has_open = has_open g a on;
      numbered = numbered_after s (t g a).esi (heard (t g a)) (bare g a) _ false _ is.reported _ _ (subst (λ n. KeepsOne (has_content (t g a).esi (bare g a)) n c.start_tag.new.matches.items (data_in c.self.inside.vm) (data_in c.start_tag.new.vm)) (counted g a) is.kept) (numbered g a);
      counted = λ ok. c.saturating_add-self-inside.ensures ∙ count_push _ (heard (t g a)) _ (counted g a);
      last = λ ok. last_start s (started_told (t g a) c.args.name.now c.args.ns) _ _ _ (heard (t g a)) (bare g a) false refl is.reported is.has_opened;
      silent = λ failed. absurd (true≢false (sym failed ∙ c.if-self.false));
      runs = λ ok. on;
      waits = λ ok. tt;
      told_open = λ ok. refl;
      room = λ ok. c.in-Ok-Reported.ensures.room (selectors (t g a).ast) (t g a).esi (heard (t g a)) (bare g a) (runs g a) refl refl (holds g a);
    })

pub invariant_of-self-in-Ok-Asked : goal.invariant_of-self-in-Ok-Asked
invariant_of-self-in-Ok-Asked g c =
    let a = (goal.at.invariant_of-self-in-Ok-Asked g c).After-start_tag in
    let is = tells g a c.in-Ok-Asked.field-0-is c.in-Ok-Asked.ensures.told in
    let asked = is (bare g a) refl refl in
    let on = asked.0.runs refl in
    let s = selectors (t g a).ast in
    rw c.then-self-inside-in-Ok-Asked.ensures (record {
      charged = c.in-Ok-Asked.ensures.charged c.self.invariant.charged;
      has_open = has_open g a on;
      numbered = ap (map (λ (e : OpenElement g.row.T.Denot). e.number)) asked.1 ∙ (numbered g a ∙ sym (ap numbers_open (open_after_dropped s (t g a).esi (heard (t g a)) (bare g a) asked.0.pending.asks refl)));
      counted = λ ok. counted g a;
      last = λ ok. last_dropped s (asked_told (t g a) c.args.name.now c.args.ns) _ _ _ (heard (t g a)) (bare g a) refl asked.0.pending.asks refl c.clear.ensures.items refl;
      silent = λ failed. absurd (true≢false (sym failed ∙ c.if-self.false));
      runs = λ ok. on;
      waits = λ ok tag named spaced. (is tag named spaced).0.pending;
      told_open = λ ok. refl;
      room = λ ok. subst (HoldsEachReport (selectors (t g a).ast)) (sym c.clear.ensures.capacity) (c.in-Ok-Asked.ensures.room (selectors (t g a).ast) (t g a).esi (heard (t g a)) (bare g a) (runs g a) refl refl (holds g a));
    })

pub returns-in-Ok-Reported-clause-answers : goal.returns-in-Ok-Reported-clause-answers
returns-in-Ok-Reported-clause-answers g c =
    let a = (goal.at.returns-in-Ok-Reported-clause-answers g c).After-start_tag in
    rw (← c.self.view_is) (λ tag named spaced. (tells g a c.in-Ok-Reported.field-0-is c.in-Ok-Reported.ensures.told tag named spaced).reported)

pub returns-in-Ok-Reported-clause-fits : goal.returns-in-Ok-Reported-clause-fits
returns-in-Ok-Reported-clause-fits g c =
    let a = (goal.at.returns-in-Ok-Reported-clause-fits g c).After-start_tag in
    rw (← c.self.view_is) (c.if-self.false, λ tag named spaced. (tells g a c.in-Ok-Reported.field-0-is c.in-Ok-Reported.ensures.told tag named spaced).fits)

pub returns-in-Ok-Reported-clause-opens : goal.returns-in-Ok-Reported-clause-opens
returns-in-Ok-Reported-clause-opens g c =
    let a = (goal.at.returns-in-Ok-Reported-clause-opens g c).After-start_tag in
    let told = tells g a c.in-Ok-Reported.field-0-is c.in-Ok-Reported.ensures.told in
    rw (← c.self.view_is) (λ tag named spaced. record {
      opened = (told tag named spaced).has_opened;
      kept = subst (λ n. KeepsOne (has_content (t g a).esi tag) n c.start_tag.new.matches.items (data_in c.self.inside.vm) (data_in c.start_tag.new.vm)) (counted g a) (told tag named spaced).kept;
    })

pub returns-in-Ok-Reported-clause-tried : goal.returns-in-Ok-Reported-clause-tried
returns-in-Ok-Reported-clause-tried g c = rw (← c.self.view_is) (λ ok. tried g (goal.at.returns-in-Ok-Reported-clause-tried g c).After-start_tag)

pub returns-in-Ok-Asked-clause-answers : goal.returns-in-Ok-Asked-clause-answers
returns-in-Ok-Asked-clause-answers g c =
    let a = (goal.at.returns-in-Ok-Asked-clause-answers g c).After-start_tag in
    rw (← c.self.view_is) (c.clear.ensures.items, λ tag named spaced. (tells g a c.in-Ok-Asked.field-0-is c.in-Ok-Asked.ensures.told tag named spaced).0.pending.asks)

pub returns-in-Ok-Asked-clause-fits : goal.returns-in-Ok-Asked-clause-fits
returns-in-Ok-Asked-clause-fits g c =
    let a = (goal.at.returns-in-Ok-Asked-clause-fits g c).After-start_tag in
    rw (← c.self.view_is) (c.if-self.false, λ tag named spaced. (tells g a c.in-Ok-Asked.field-0-is c.in-Ok-Asked.ensures.told tag named spaced).0.fits)

pub returns-in-Ok-Asked-clause-opens : goal.returns-in-Ok-Asked-clause-opens
returns-in-Ok-Asked-clause-opens g c =
    let a = (goal.at.returns-in-Ok-Asked-clause-opens g c).After-start_tag in
    rw (← c.self.view_is) (record { opened = refl; kept = (tells g a c.in-Ok-Asked.field-0-is c.in-Ok-Asked.ensures.told (bare g a) refl refl).1 })

pub returns-in-Ok-Asked-clause-tried : goal.returns-in-Ok-Asked-clause-tried
returns-in-Ok-Asked-clause-tried g c = rw (← c.self.view_is) (λ ok. tried g (goal.at.returns-in-Ok-Asked-clause-tried g c).After-start_tag)

pub returns-in-Err-clause-tried : goal.returns-in-Err-clause-tried
returns-in-Err-clause-tried g c = rw (← c.self.view_is) (λ ok. tried g (goal.at.returns-in-Err-clause-tried g c).After-start_tag)
