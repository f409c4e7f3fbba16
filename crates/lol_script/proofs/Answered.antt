-- What a matcher answers to a start tag of a script.
use Rattle.std.proofs.Common.{◌≡◌, ℕ, Bool, true, false, List, [], ◌∷◌, ◌++◌, map, Option, Some, None, refl, sym, ap, ◌∙◌, subst}
use Rattle.std.specs.Prelude.{◌&&◌, not}
use Rattle.lol_base.specs.StartTags.{StartTag}
use Rattle.lol_base.specs.declared.namespace.Namespace.{Namespace}
use Rattle.lol_instructions.specs.Tries.{names_counted, attributes_counted}
use Rattle.lol_reasons.specs.AskedRuns.{bare_tag}
use Rattle.lol_matcher.specs.Answering as answering
use Rattle.lol_matcher.specs.Answering.{IsAnsweredAfter, OpensFor, OpensStart, refused_with, told_after, with_told}
use Rattle.lol_matcher.specs.Keeping.{IsRefusal}
use Rattle.lol_matcher.specs.LastLaws.{dropped_answer}
use Rattle.lol_matcher.specs.Noted.{handed_told}
use Rattle.lol_matcher.specs.Refusing.{Fits, RefusesStart, RefusesStartWith, refusal_of}
use Rattle.lol_matcher.specs.Told.{Told, elements_of, heard}
use Rattle.lol_matcher.specs.declared.error.MatcherError.{MatcherError}
use Rattle.lol_matcher.specs.declared.error.MatcherError.TheVariants.{MemoryLimitExceeded, Memory, CounterFull, Failed, NotAsked, OutsideInput}
use Rattle.lol_matcher.specs.declared.matcher.Started.TheVariants as started
use Rattle.lol_machine.specs.Answers.{Started, document, is_dropped}
use Rattle.lol_machine.specs.Documents.{element_of}
use Rattle.lol_machine.specs.Events.{Event, Start}
use Rattle.lol_machine.specs.Refusals.{Cause}
use Rattle.lol_machine.specs.Views.{match_of, selectors}
use Rattle.lol_machine.specs.Vms.{is_asked_for}
use Rattle.lol_script.specs.Answering.{GoesOn, IsCauseOf, IsStarted, IsStopped}
use Rattle.lol_script.specs.declared.script_run.Outcome.TheVariants.{Dropped, Reported}
use Rattle.lol_script.proofs.StartTags.{M}

-- it goes on, with what it was told then
goes_on : (told : Told) (tag : StartTag) (old new : M) → old.failed ≡ false → new ≡ with_told told old new → told.ast ≡ old.told.ast → told.esi ≡ old.told.esi → heard told ≡ heard old.told ++ Start tag ∷ [] → GoesOn (Start tag) old new
goes_on told tag old new going is ast esi more = record {
  ast = ap (λ (m : M). m.told.ast) is ∙ ast;
  esi = ap (λ (m : M). m.told.esi) is ∙ esi;
  memory = ap (λ (m : M). m.max_memory) is;
  bytes = ap (λ (m : M). m.element_bytes) is;
  going = ap (λ (m : M). m.failed) is ∙ going;
  heard_more = ap (λ (m : M). heard m.told) is ∙ more;
  elements = ap (λ (m : M). m.open_elements) is ∙ sym (ap (λ (m : M). elements_of m.told) is);
}

module _ (old new : M) (going : old.failed ≡ false) where
  -- with its attributes at hand
  pub whole_started : (asked : Bool) (tag script : StartTag) → tag ≡ script → new ≡ with_told (handed_told old.told tag) old new → refusal_of old (heard old.told) tag ≡ None → IsAnsweredAfter old.told tag new
      → asked ≡ is_asked_for (selectors old.told.ast) old.told.esi (heard old.told) tag → OpensFor (heard old.told) tag old new → IsStarted (Reported asked) script old new
  whole_started asked tag script same is fits answered asks opens = subst (λ (t : StartTag). IsStarted (Reported asked) t old new) same (record {
    goes_on = goes_on (handed_told old.told tag) tag old new going is refl refl refl;
    fits = fits;
    answered = answered ∙ ap (λ (b : Bool). Started (map match_of new.matched) b (names_counted new.tries) (attributes_counted new.tries)) (sym asks);
    opened = opens.opened;
  })

  pub whole_stopped : (error : MatcherError) (cause : Cause) (tag script : StartTag) → tag ≡ script → IsCauseOf error cause → (IsRefusal error → RefusesStartWith error old tag) → (IsRefusal error → new ≡ refused_with old new)
      → IsStopped cause script old new
  whole_stopped MemoryLimitExceeded cause tag script same is refuses after = subst (λ (t : StartTag). IsStopped cause t old new) same (record { refused = refuses tt ∙ ap Some (sym is); after = after tt })
  whole_stopped CounterFull cause tag script same is refuses after = subst (λ (t : StartTag). IsStopped cause t old new) same (record { refused = refuses tt ∙ ap Some (sym is); after = after tt })
  whole_stopped Memory cause tag script same is refuses after = absurd is
  whole_stopped Failed cause tag script same is refuses after = absurd is
  whole_stopped NotAsked cause tag script same is refuses after = absurd is
  whole_stopped OutsideInput cause tag script same is refuses after = absurd is

  -- by its name and its namespace
  module _ (name : List ℕ) (ns : Namespace) (script : StartTag) (same : bare_tag name ns ≡ script) where
    abbrev bare : StartTag
    bare = bare_tag name ns

    pub bare_started : answering.AnswersStart started.Reported old.told name ns new.matched new.tries → OpensStart started.Reported name ns old new → new ≡ with_told (told_after started.Reported old.told name ns) old new → Fits started.Reported old name ns
        → IsStarted (Reported false) script old new
    bare_started answers opens is fits = subst (λ (t : StartTag). IsStarted (Reported false) t old new) same (record {
      goes_on = goes_on (told_after started.Reported old.told name ns) bare old new going is refl refl refl;
      fits = fits bare refl refl;
      answered = answers bare refl refl;
      opened = (opens bare refl refl).opened;
    })

    pub bare_dropped : answering.AnswersStart started.NeedsAttributes old.told name ns new.matched new.tries → OpensStart started.NeedsAttributes name ns old new → new ≡ with_told (told_after started.NeedsAttributes old.told name ns) old new
        → Fits started.NeedsAttributes old name ns → IsStarted Dropped script old new
    bare_dropped answers opens is fits =
        let s = selectors old.told.ast in
        let d = document s old.told.esi (heard old.told) in
        subst (λ (t : StartTag). IsStarted Dropped t old new) same (record {
          goes_on = goes_on (told_after started.NeedsAttributes old.told name ns) bare old new going is refl refl refl;
          fits = fits bare refl refl refl;
          answered = dropped_answer (is_dropped s (element_of d bare) d.open_elements) _ (λ i. answers.1 bare refl refl i && true);
          opened = opens.opened;
        })

    pub bare_stopped : (error : MatcherError) (cause : Cause) → IsCauseOf error cause → RefusesStart error old name ns → new ≡ refused_with old new → IsStopped cause script old new
    bare_stopped MemoryLimitExceeded cause is refuses after = subst (λ (t : StartTag). IsStopped cause t old new) same (record { refused = refuses bare refl refl ∙ ap Some (sym is); after = after })
    bare_stopped CounterFull cause is refuses after = subst (λ (t : StartTag). IsStopped cause t old new) same (record { refused = refuses bare refl refl ∙ ap Some (sym is); after = after })
    bare_stopped Memory cause is refuses after = absurd is
    bare_stopped Failed cause is refuses after = absurd is
    bare_stopped NotAsked cause is refuses after = absurd is
    bare_stopped OutsideInput cause is refuses after = absurd is
