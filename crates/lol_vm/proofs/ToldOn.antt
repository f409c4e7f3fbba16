-- A matcher that was told one event more.
use Rattle.std.proofs.Common.{◌≡◌, ◌≤◌, ◌<◌, ◌+◌, ◌-◌, ◌*◌, ◌^◌, ℕ, suc, max, nat_lt, arith, Bool, true, false, not, List, [], ◌∷◌, ◌++◌, length, Option, Some, None, inl, inr, refl, sym, ap, ◌∙◌, subst, ◌&&◌, if◌then◌else◌}
use Rattle.std.proofs.lemmas.Bool.Decides.{nat_tests}
use Rattle.lol_base.specs.BoolLaws.{and-right_false, and_parts}
use Rattle.lol_base.specs.StartTags.{StartTag}
use Rattle.lol_base.specs.declared.namespace.Namespace.{Namespace}
use Rattle.lol_instructions.specs.Tests.{Element}
use Rattle.lol_reasons.specs.AskedRuns.{AnswersAsTold, AreTold, AreToldFrom, AskedRunsAnswerAlike, IsToldOf, ToldGoesOn, bare_tag}
use Rattle.lol_machine.specs.Answers.{Answer, Dropped, Match, Started, after, answer, asks, document, is_dropped}
use Rattle.lol_machine.specs.Documents.{Document, closed, element_of, empty, index_of, inner_part}
use Rattle.lol_machine.specs.Events.{Event, Start, End}
use Rattle.lol_machine.specs.FreeTags.{AreFlat, RunsWithoutMemory}
use Rattle.lol_machine.specs.RefusalLaws.{fits_on}
use Rattle.lol_machine.specs.Refusals.{Allowance, Cause, Counter, Limit, exceeds, greatest_count, or_later, refusal, refused, refused_from}
use Rattle.lol_machine.specs.Standing.{DocumentsAreOrdered}
use Rattle.lol_machine.specs.Views.{selectors}
use Rattle.lol_machine.specs.Vms.{is_asked_for}
use Rattle.lol_matcher.specs.Answering.{with_told}
use Rattle.lol_matcher.specs.ClosedLaws.{closed_numbers}
use Rattle.lol_matcher.specs.Keeping.{IsRefusal}
use Rattle.lol_matcher.specs.LastLaws.{dropped_answer}
use Rattle.lol_matcher.specs.Refusing.{IsRefusedFor, allowance, refusal_after}
use Rattle.lol_matcher.specs.Told.{Matching, Told, elements_of, heard, numbers_open}
use Rattle.lol_matcher.specs.declared.error.MatcherError.{MatcherError}
use Rattle.lol_matcher.specs.declared.error.MatcherError.TheVariants as errors
use Rattle.lol_memory.specs.Limiter.{Limiter}
use Rattle.lol_memory.specs.Slots.{slots}
use Rattle.lol_program.specs.Paths.{Selectors}
use Rattle.lol_program.specs.declared.ast.Ast.{Ast}
use Rattle.lol_vm.specs.RunRefusals.{allowance_of}
use Rattle.lol_vm.specs.ToldEvents.{WasTold, refusal_at}

-- 1. Refusals

-- where a tag was answered, memory alone is refused
pub answered_memory : (free : Type 0) (r : Option Cause) → r ≡ None → IsRefusedFor errors.Memory free r
answered_memory free r none = ((λ full. some_is (sym none ∙ full)), (λ f over. some_is (sym none ∙ over)))
  where
    some_is : {c : Cause} → None ≡ Some c → ⊥
    some_is is = cc

pub refused_alike : (error : MatcherError) (free free' : Type 0) (r r' : Option Cause) → (free' → free) → r ≡ r' → IsRefusedFor error free r → IsRefusedFor error free' r'
refused_alike errors.MemoryLimitExceeded free free' r r' to same is = sym same ∙ is
refused_alike errors.CounterFull free free' r r' to same is = sym same ∙ is
refused_alike errors.Memory free free' r r' to same is = ((λ full. is.0 (same ∙ full)), (λ f over. is.1 (to f) (same ∙ over)))
refused_alike errors.Failed free free' r r' to same is = is
refused_alike errors.NotAsked free free' r r' to same is = is
refused_alike errors.OutsideInput free free' r r' to same is = is

-- what refuses a tag, where it is none of the others
pub refusal_is : (error : MatcherError) → (error ≡ errors.Failed → ⊥) → (error ≡ errors.OutsideInput → ⊥) → (error ≡ errors.NotAsked → ⊥) → IsRefusal error
refusal_is errors.MemoryLimitExceeded failed outside unasked = tt
refusal_is errors.CounterFull failed outside unasked = tt
refusal_is errors.Memory failed outside unasked = tt
refusal_is errors.Failed failed outside unasked = absurd (failed refl)
refusal_is errors.NotAsked failed outside unasked = absurd (unasked refl)
refusal_is errors.OutsideInput failed outside unasked = absurd (outside refl)

dropped_is : (drop : Bool) (m : List Match) (asked : Bool) (k l : ℕ) → (if drop then Dropped else Started m asked k l) ≡ Dropped → drop ≡ true
dropped_is true m asked k l is = refl
dropped_is false m asked k l is = cc

-- a limiter's maximum may as well be what remains of it
module _ (bytes : ℕ) (limiter : Limiter) (within : limiter.usage ≤ limiter.maximum) where
  passes_alike : (charge : ℕ) → nat_lt (limiter.maximum - limiter.usage) (charge + 0) ≡ nat_lt limiter.maximum (charge + limiter.usage)
  passes_alike charge = grind (arith, nat_tests, within)

  exceeds_alike : (most : ℕ) → exceeds (allowance bytes (limiter.maximum - limiter.usage)) most ≡ exceeds (allowance_of bytes limiter) most
  exceeds_alike most = passes_alike (slots bytes most * bytes)

  refusal_within : (s : Selectors) (esi : Bool) (d : Document) (most : ℕ) (event : Event) → refusal s esi (allowance bytes (limiter.maximum - limiter.usage)) d most event ≡ refusal s esi (allowance_of bytes limiter) d most event
  refusal_within s esi d most (Start tag) =
      ap (λ over. if nat_lt greatest_count (element_of d tag).position then Some Counter else (if over then Some Limit else None)) (exceeds_alike (max most (length (after s esi d (Start tag)).open_elements)))
  refusal_within s esi d most (End name) = refl

  refused_from_within : (s : Selectors) (esi : Bool) (d : Document) (most : ℕ) (events : List Event)
      → refused_from s esi (allowance bytes (limiter.maximum - limiter.usage)) d most events ≡ refused_from s esi (allowance_of bytes limiter) d most events
  refused_from_within s esi d most [] = refl
  refused_from_within s esi d most (event ∷ events) =
      λ i. or_later d.events (refusal_within s esi d most event i) (refused_from_within s esi (after s esi d event) (max most (length (after s esi d event).open_elements)) events i)

  pub refused_within : (s : Selectors) (esi : Bool) (events : List Event) → refused s esi (allowance bytes (limiter.maximum - limiter.usage)) events ≡ refused s esi (allowance_of bytes limiter) events
  refused_within s esi events = refused_from_within s esi empty 0 events

-- as many were told as came
told_length : (s : Selectors) (esi : Bool) (d : Document) (events told : List Event) → AreToldFrom s esi d events told → length told ≡ length events
told_length s esi d [] [] are = refl
told_length s esi d [] (t ∷ told) are = absurd are
told_length s esi d (event ∷ events) [] are = absurd are
told_length s esi d (event ∷ events) (t ∷ told) are = ap suc (told_length s esi (after s esi d t) events told are.1)

-- 2. What a matcher was told

module _ {T : Type 0} (alike : AskedRunsAnswerAlike) (goes_on : ToldGoesOn) (ast : Ast) (esi : Bool) (a : Allowance) (events : List Event) (m : Matching T) (w : WasTold ast esi a events m) where
  abbrev s : Selectors
  s = selectors ast

  abbrev d : Document
  d = document s esi (heard m.told)

  as_told : AnswersAsTold s esi events (heard m.told)
  as_told = alike ast esi events (heard m.told) w.told

  -- what comes next is refused alike
  refused_as : (tag : StartTag) → refusal_after (selectors m.told.ast) m.told.esi (allowance m.element_bytes m.max_memory) (heard m.told) tag ≡ refusal_at s esi a events (Start tag)
  refused_as tag = (λ i. refusal_after (selectors (w.tree i)) (w.switch i) (w.allowed i) (heard m.told) tag) ∙ as_told.refused_next a (Start tag)

  pub fits_as : (tag : StartTag) → refusal_after (selectors m.told.ast) m.told.esi (allowance m.element_bytes m.max_memory) (heard m.told) tag ≡ None → refusal_at s esi a events (Start tag) ≡ None
  fits_as tag none = sym (refused_as tag) ∙ none

  -- and answered alike
  pub answered_as : (event : Event) (x : Answer) → answer (selectors m.told.ast) m.told.esi (document (selectors m.told.ast) m.told.esi (heard m.told)) event ≡ x → x ≡ answer s esi (document s esi events) event
  answered_as event x is = sym is ∙ ((λ i. answer (selectors (w.tree i)) (w.switch i) (document (selectors (w.tree i)) (w.switch i) (heard m.told)) event) ∙ as_told.answered_next event)

  -- the numbers of what an end tag closes
  pub closed_as : DocumentsAreOrdered → length events < 2 ^ 64 → (name : List ℕ)
      → numbers_open (inner_part (index_of name m.open_elements) m.open_elements) ≡ closed name (document (selectors m.told.ast) m.told.esi (heard m.told))
  closed_as ordered few name =
      let many = told_length s esi empty events (heard m.told) w.told in
      ap (λ (es : List Element). numbers_open (inner_part (index_of name es) es)) w.opened
      ∙ closed_numbers ordered (selectors m.told.ast) m.told.esi (heard m.told) (omega (arith, many, few)) name

  module _ (tag : StartTag) (unfinished : tag.finish ≡ false) where
    -- a tag whose attributes are asked for, and not handed over
    drops : asks s (element_of d tag) d.open_elements ≡ true → is_dropped s (element_of d tag) d.open_elements ≡ true
    drops asked = λ i. asked i && not (unfinished i)

    pub dropped_as : is_asked_for (selectors m.told.ast) m.told.esi (heard m.told) tag ≡ true → Dropped ≡ answer s esi (document s esi events) (Start tag)
    dropped_as asked =
        let asks_here : asks s (element_of d tag) d.open_elements ≡ true = sym (λ i. is_asked_for (selectors (w.tree i)) (w.switch i) (heard m.told) tag) ∙ asked in
        sym (dropped_answer (is_dropped s (element_of d tag) d.open_elements) _ (drops asks_here)) ∙ as_told.answered_next (Start tag)

    asks_as : asks s (element_of d tag) d.open_elements ≡ true → asks s (element_of (document s esi events) tag) (document s esi events).open_elements ≡ true
    asks_as asked =
        (and_parts _ _ (dropped_is (is_dropped s (element_of (document s esi events) tag) (document s esi events).open_elements) _ _ _ _
        (sym (as_told.answered_next (Start tag)) ∙ dropped_answer (is_dropped s (element_of d tag) d.open_elements) _ (drops asked)))).0

    pub refused_unfinished : (error : MatcherError) → IsRefusedFor error (RunsWithoutMemory (selectors m.told.ast) m.told.esi (heard m.told) tag)
        (refusal_after (selectors m.told.ast) m.told.esi (allowance m.element_bytes m.max_memory) (heard m.told) tag)
        → IsRefusedFor error (RunsWithoutMemory s esi events tag) (refusal_at s esi a events (Start tag))
    refused_unfinished error is =
        refused_alike error _ _ _ _
        (λ runs. subst (λ (t : Ast × Bool). RunsWithoutMemory (selectors t.0) t.1 (heard m.told) tag) (λ i. (sym w.tree i, sym w.switch i)) (record { flat = runs.flat; named = λ asked. runs.named (asks_as asked) }))
        (refused_as tag) is

    -- what it is told
    pub told_bare : (name : List ℕ) (ns : Namespace) → tag.name ≡ name → tag.namespace ≡ ns → IsToldOf s d (Start tag) (Start (bare_tag name ns))
    told_bare name ns named spaced = inr ((λ i. Start (bare_tag (sym named i) (sym spaced i))), and-right_false (asks s (element_of d tag) d.open_elements) tag.finish unfinished)

  pub refused_handed : (tag : StartTag) (error : MatcherError) → IsRefusedFor error (AreFlat (selectors m.told.ast)) (refusal_after (selectors m.told.ast) m.told.esi (allowance m.element_bytes m.max_memory) (heard m.told) tag)
      → IsRefusedFor error (RunsWithoutMemory s esi events tag) (refusal_at s esi a events (Start tag))
  refused_handed tag error is = refused_alike error _ _ _ _ (λ runs. subst (λ (t : Ast). AreFlat (selectors t)) (sym w.tree) runs.flat) (refused_as tag) is

  -- 3. One event more

  module _ (event t : Event) (is : IsToldOf s d event t) (none : refusal_at s esi a events event ≡ None) (new : Matching T) where
    pub told_on : new.failed ≡ false → new.told.ast ≡ m.told.ast → new.told.esi ≡ m.told.esi → allowance new.element_bytes new.max_memory ≡ allowance m.element_bytes m.max_memory
        → heard new.told ≡ heard m.told ++ t ∷ [] → new.open_elements ≡ elements_of new.told → WasTold ast esi a (events ++ event ∷ []) new
    told_on well tree switch allowed more opened = record {
      well = well;
      tree = tree ∙ w.tree;
      switch = switch ∙ w.switch;
      allowed = allowed ∙ w.allowed;
      told = subst (AreTold s esi (events ++ event ∷ [])) (sym more) (goes_on s esi events (heard m.told) w.told event t is);
      opened = opened;
      fits = fits_on s esi a events w.fits event none;
    }

    pub told_with : (told' : Told) → new ≡ with_told told' m new → told'.ast ≡ m.told.ast → told'.esi ≡ m.told.esi → heard told' ≡ heard m.told ++ t ∷ []
        → WasTold ast esi a (events ++ event ∷ []) new
    told_with told' same tree switch more =
        let told_is : new.told ≡ told' = ap (λ (x : Matching T). x.told) same in
        told_on (ap (λ (x : Matching T). x.failed) same ∙ w.well) (ap (λ (x : Told). x.ast) told_is ∙ tree) (ap (λ (x : Told). x.esi) told_is ∙ switch)
        (ap (λ (x : Matching T). allowance x.element_bytes x.max_memory) same) (ap heard told_is ∙ more)
        (ap (λ (x : Matching T). x.open_elements) same ∙ ap elements_of (sym told_is))
