-- What is kept of a start tag that was answered.
use Rattle.std.proofs.Common.{◌≡◌, ℕ, ◌≤◌, ◌<◌, Bool, true, List, [], ◌∷◌, ◌++◌, length, refl, ap, sym, ◌∙◌, subst, map}
use Rattle.std.specs.Prelude.{IsTrue, ◌↔◌}
use Rattle.lol_base.specs.StartTags.{StartTag}
use Rattle.lol_instructions.specs.Tries.{names_counted, attributes_counted}
use Rattle.lol_memory.specs.LimitedVec.{IsLimited}
use Rattle.lol_memory.specs.Limiter.{Limiter}
use Rattle.lol_memory.specs.declared.match_info.MatchInfo.{MatchInfo}
use Rattle.lol_program.specs.Paths.{Selectors}
use Rattle.lol_stack.specs.Stacks.{list_in}
use Rattle.lol_machine.specs.Answers.{Match, Started, document}
use Rattle.lol_machine.specs.Due.{IsWithinLimit}
use Rattle.lol_machine.specs.Documents.{children_of, element_of}
use Rattle.lol_machine.specs.Events.{Event, Start, has_content}
use Rattle.lol_machine.specs.Refusals.{greatest_count, longest}
use Rattle.lol_machine.specs.Standing.{DocumentsAreOrdered}
use Rattle.lol_machine.specs.Views.{match_of}
use Rattle.lol_machine.specs.VmLaws.{PendingStands, SlotsAreOfDepth, StandingCounts}
use Rattle.lol_machine.specs.Vms.{Vm, ChargesSlots, Stands, IsAnswered, IsPending, IsTriedAtMost, data_in, info_of, tries_in, stack_in, slot_bytes}
use Rattle.lol_machine.specs.declared.error.AuxStartTagInfoRequest.{AuxStartTagInfoRequest}
use Rattle.lol_machine.specs.Openings.{countable_after, has_content_if, opens_nothing, unfinished_is}
use Rattle.lol_matcher.specs.Keeping.{IsToldAs, IsAskedFor, IsCharged, KeepsRunning, NumbersOpened, Runs, allowed, ids_of}
use Rattle.lol_matcher.specs.declared.open_element.OpenElement.{OpenElement}
use Rattle.lol_matcher.proofs.Charges.{charged_after}
use Rattle.lol_matcher.proofs.Opened.{is_opened, keeps_one}
use Rattle.lol_matcher.proofs.Refusals.{IsChargedFor, fits, not_refused, opens_in}
use Rattle.lol_matcher.proofs.Running.{charged_for, runs_on}

-- 1. Reports

same_matches : (matched : List Match) → map match_of (map info_of matched) ≡ matched
same_matches [] = refl
same_matches (m ∷ matched) = ap (λ ms. m ∷ ms) (same_matches matched)

-- 2. A machine that runs

module _ {E : Type 0} (depths : SlotsAreOfDepth E) (counts : StandingCounts E) (ordered : DocumentsAreOrdered) (s : Selectors) (esi : Bool) (events : List Event) (tag : StartTag) (old new : Vm E) (now later : Limiter)
    (is : IsChargedFor (document s esi events) (longest s esi events) (list_in (stack_in old)) now) (room : (element_of (document s esi events) tag).position ≤ greatest_count)
    (countable : (parent : _) → children_of parent (document s esi events).children ≤ greatest_count) (unlimited : opens_in s esi (document s esi events) tag ≡ true → IsLimited (list_in (stack_in old)) now → ⊥)
    (bytes : slot_bytes new ≡ slot_bytes old) (maximum : later.maximum ≡ now.maximum) (charged : IsCharged new later) where
  pub runs_after : Stands s esi new (events ++ Start tag ∷ []) → Runs s esi (events ++ Start tag ∷ []) new later
  runs_after stands =
      let d = document s esi events in
      let opens = opens_in s esi d tag in
      runs_on depths counts ordered s esi events (Start tag) old new now later is.some is.word stands bytes maximum charged
      (fits s esi is opens tag unlimited) (countable_after d tag opens countable room)

-- Its attributes are asked for.
pub asked_for : {T : Type 0} → SlotsAreOfDepth (OpenElement T) → StandingCounts (OpenElement T) → DocumentsAreOrdered → PendingStands (OpenElement T)
    → (s : Selectors) (esi : Bool) (events : List Event) (tag : StartTag) (old new : Vm (OpenElement T)) (now later : Limiter) → Runs s esi events old now → (element_of (document s esi events) tag).position ≤ greatest_count
    → slot_bytes new ≡ slot_bytes old → later.maximum ≡ now.maximum → IsCharged new later
    → (request : AuxStartTagInfoRequest (OpenElement T)) → IsPending ids_of s esi events tag new request → IsAskedFor s esi events tag (allowed old now) new later request
asked_for depths counts ordered dropped s esi events tag old new now later runs room bytes maximum charged request pending =
    let is = charged_for depths counts ordered s esi events old now runs in
    record {
      pending = pending;
      fits = λ none. not_refused s esi is tag room (λ opens limited. opens_nothing s esi events tag pending.asks none opens);
      runs = λ none. runs_after depths counts ordered s esi events tag old new now later is room runs.countable (λ opens limited. opens_nothing s esi events tag pending.asks none opens) bytes maximum charged
          (subst (λ t. Stands s esi new (events ++ Start t ∷ [])) (unfinished_is tag none) (dropped ids_of s esi events tag new request pending));
    }

-- 3. A start tag that was answered, whose element, if it was opened, has a number and no value

module _ {T F : Type 0} {step : F → MatchInfo → Unit {0} → F → Type 0} {f g : F} (depths : SlotsAreOfDepth (OpenElement T)) (counts : StandingCounts (OpenElement T)) (ordered : DocumentsAreOrdered) (s : Selectors) (esi : Bool) (events : List Event) (tag : StartTag) {asked : Bool} {old mid new : Vm (OpenElement T)} {now later : Limiter}
    (is : IsChargedFor (document s esi events) (longest s esi events) (list_in (stack_in old)) now) (room : (element_of (document s esi events) tag).position ≤ greatest_count)
    (countable : (parent : _) → children_of parent (document s esi events).children ≤ greatest_count) (told : IsWithinLimit (has_content esi tag) old now × IsAnswered ids_of step s esi events tag asked old mid f g)
    (charges : ChargesSlots old mid now later) {before : ℕ} (many : before ≡ length (data_in old)) {number : ℕ} {opened : Bool} (numbers : NumbersOpened before number opened mid new) where
  abbrev run : KeepsRunning mid new
  run = numbers.running

  unlimited : opens_in s esi (document s esi events) tag ≡ true → IsLimited (list_in (stack_in old)) now → ⊥
  unlimited opening = told.0 (has_content_if s esi events tag opening)

  bytes : slot_bytes new ≡ slot_bytes old
  bytes = run.bytes ∙ charges.bytes

  maximum : later.maximum ≡ now.maximum
  maximum = ap (λ (l : Limiter). l.maximum) charges.charged

  stands_on : Stands s esi new (events ++ Start tag ∷ [])
  stands_on = run.stands s esi (events ++ Start tag ∷ []) told.1.stands

  stays_charged : IsCharged new later
  stays_charged = charged_after charges run is.usage

  is_content : opened ≡ has_content esi tag
  is_content = is_opened (has_content esi tag) opened told.1.matched (data_in old) (data_in mid) told.1.opened (subst (λ n. IsTrue opened ↔ (n < length (data_in mid))) many numbers.opened)

  -- it is told so, where the list has what the handler was called with
  pub was_told : {items : List MatchInfo} → items ≡ map info_of told.1.matched → IsToldAs s esi events tag asked number opened items (allowed old now) old new later
  was_told {items} same =
      let matched = ap (map match_of) same ∙ same_matches told.1.matched in
      record {
        reported = told.1.answered ∙ (λ i. Started (sym matched i) asked (names_counted (sym run.tries i)) (attributes_counted (sym run.tries i)));
        fits = not_refused s esi is tag room unlimited;
        runs = runs_after depths counts ordered s esi events tag old new now later is room countable unlimited bytes maximum stays_charged stands_on;
        has_opened = is_content;
        kept = keeps_one (has_content esi tag) opened number told.1.matched items (data_in old) (data_in mid) (data_in new) told.1.opened is_content numbers.kept same;
      }

-- as many nodes are tried
pub tried_on : {E : Type 0} {old new : Vm E} (s : Selectors) (esi : Bool) (events : List Event) (tag : StartTag) → KeepsRunning old new → IsTriedAtMost s esi events tag (tries_in old) → IsTriedAtMost s esi events tag (tries_in new)
tried_on s esi events tag run tried = subst (λ tries. IsTriedAtMost s esi events tag tries) (sym run.tries) tried

-- an answer isn't another
pub other_answer : {A : Type 0} {result answer other : A} → result ≡ answer → (answer ≡ other → ⊥) → result ≡ other → ⊥
other_answer is differ at = differ (sym is ∙ at)
