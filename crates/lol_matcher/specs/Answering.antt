-- What a matcher answers.
use Rattle.std.specs.Prelude.{ℕ, ◌≡◌, Bool, true, false, List, [], ◌∷◌, ◌++◌, length, map, take, Option, None, IfSome}
use Rattle.lol_base.specs.StartTags.{StartTag}
use Rattle.lol_base.specs.declared.namespace.Namespace.{Namespace}
use Rattle.lol_base.specs.declared.start_tag.AuxStartTagInfo.{AuxStartTagInfo}
use Rattle.lol_instructions.specs.Tries.{names_counted, attributes_counted}
use Rattle.lol_instructions.specs.declared.tries.Tries.{Tries}
use Rattle.lol_memory.specs.Ids.{ascending}
use Rattle.lol_memory.specs.declared.match_info.MatchInfo.{MatchInfo}
use Rattle.lol_program.specs.Paths.{Selectors}
use Rattle.lol_machine.specs.Answers.{Match, answer, document, report, Started}
use Rattle.lol_machine.specs.Documents.{element_of}
use Rattle.lol_machine.specs.Events.{Event, Start, has_content}
use Rattle.lol_machine.specs.Views.{selectors, match_of}
use Rattle.lol_machine.specs.Vms.{is_asked_for, open_after}
use Rattle.lol_matcher.specs.Told.{Told, Matching, elements_of, heard, in_word}
use Rattle.lol_matcher.specs.Noted.{handed, started_told, asked_told, ended_told}
use Rattle.lol_matcher.specs.declared.matcher.Started as started
use Rattle.lol_matcher.specs.declared.matcher.Started.TheVariants.{Reported, NeedsAttributes}
use Rattle.lol_matcher.specs.declared.open_element.OpenElement.{OpenElement}

-- A start tag after events is reported under exactly these, in order, its attributes are asked for or not, and so many nodes are tried.
abbrev pub IsReportedUnder : Selectors → Bool → List Event → StartTag → Bool → List MatchInfo → Tries → Type 0
IsReportedUnder s esi events tag asked matched tries =
    answer s esi (document s esi events) (Start tag) ≡ Started (map match_of matched) asked (names_counted tries) (attributes_counted tries)

-- what a start tag after events is reported under, in order
abbrev pub reported_after : Selectors → Bool → List Event → StartTag → List Match
reported_after s esi events tag = report s esi (element_of (document s esi events) tag) (document s esi events).open_elements

-- what a start tag that comes now is reported under, in order
abbrev pub reported_in : Told → StartTag → List Match
reported_in t tag = reported_after (selectors t.ast) t.esi (heard t) tag

-- what was told, after a start tag
abbrev pub told_after : started.Started → Told → List ℕ → Namespace → Told
told_after Reported t name ns = started_told t name ns
told_after NeedsAttributes t name ns = asked_told t name ns

-- A start tag of this name and namespace, whatever its attributes are, is reported so, or its attributes are asked for.
abbrev pub AnswersStart : started.Started → Told → List ℕ → Namespace → List MatchInfo → Tries → Type 0
AnswersStart Reported t name ns matched tries =
    (tag : StartTag) → tag.name ≡ name → tag.namespace ≡ ns → IsReportedUnder (selectors t.ast) t.esi (heard t) tag false matched tries
AnswersStart NeedsAttributes t name ns matched tries =
    (matched ≡ []) × ((tag : StartTag) → tag.name ≡ name → tag.namespace ≡ ns → is_asked_for (selectors t.ast) t.esi (heard t) tag ≡ true)

-- a list whose last is changed, if there is one
abbrev pub change_last : {A : Type 0} → (A → A) → List A → List A
change_last change [] = []
change_last change (x ∷ []) = change x ∷ []
change_last change (x ∷ y ∷ xs) = x ∷ change_last change (y ∷ xs)

-- these elements, where the last has another value
abbrev pub with_value : {T : Type 0} → Option T → List (OpenElement T) → List (OpenElement T)
with_value value elements = change_last (λ element. record element { value = value }) elements

-- these elements, where the last has this number and no value
abbrev pub with_last_number : {T : Type 0} → ℕ → List (OpenElement T) → List (OpenElement T)
with_last_number number elements = change_last (λ element. record element { number = number; value = None }) elements

-- the value of the last of these elements, or a given one where there is none
abbrev pub last_value : {T : Type 0} → Option T → List (OpenElement T) → Option T
last_value value [] = value
last_value value (element ∷ []) = element.value
last_value value (element ∷ next ∷ elements) = last_value value (next ∷ elements)

-- An element with content is opened: it comes last, with its number, exactly the ids that it is reported under, and no value yet.
abbrev pub KeepsOne : {T : Type 0} → Bool → ℕ → List MatchInfo → List (OpenElement T) → List (OpenElement T) → Type 0
KeepsOne false number matched old new = new ≡ old
KeepsOne {T} true number matched old new =
    (element : OpenElement T)
    × (new ≡ old ++ element ∷ [])
    × (element.number ≡ number)
    × (element.value ≡ None)
    × (ascending element.matched_ids ≡ map (λ info. info.match_id) matched)

-- a matcher that answered a start tag after so many events, whose element has content or not: it is open exactly then
pub record Opens {T : Type 0} (content : Bool) (before : ℕ) (old new : Matching T) : Type 0 where
  pub opened : new.opened ≡ content
  pub kept : KeepsOne content (in_word before) new.matched old.kept new.kept

-- the same of a start tag after events
abbrev pub OpensFor : {T : Type 0} → List Event → StartTag → Matching T → Matching T → Type 0
OpensFor events tag old new = Opens (has_content old.told.esi tag) (length events) old new

-- Of the start tag that waits, with these attributes, this holds, if one waits.
abbrev pub IfWaits : Told → AuxStartTagInfo → (StartTag → Type 0) → Type 0
IfWaits told aux holds = IfSome told.asked (λ asked. holds (handed asked.0 asked.1 aux))

-- The start tag that waited was answered as the definition says.
abbrev pub IsFinishedAs : {T : Type 0} → Told → StartTag → Matching T → Type 0
IsFinishedAs t tag new = IsReportedUnder (selectors t.ast) t.esi t.events tag true new.matched new.tries

-- A start tag with its attributes was answered as the definition says, after what was told.
abbrev pub IsAnsweredAfter : {T : Type 0} → Told → StartTag → Matching T → Type 0
IsAnsweredAfter t tag new = IsReportedUnder (selectors t.ast) t.esi (heard t) tag (is_asked_for (selectors t.ast) t.esi (heard t) tag) new.matched new.tries

-- A matcher that was told a tag: nothing else changed but for what is reported and what is open.
abbrev pub with_told : {T : Type 0} → Told → Matching T → Matching T → Matching T
with_told told m new =
    record m {
      told = told;
      matched = new.matched;
      tries = new.tries;
      opened = new.opened;
      open_elements = elements_of told;
      kept = new.kept;
    }

-- A start tag of this name and namespace was reported, and its element is open exactly if it has content; or its attributes are asked for.
abbrev pub OpensStart : {T : Type 0} → started.Started → List ℕ → Namespace → Matching T → Matching T → Type 0
OpensStart Reported name ns old new =
    (tag : StartTag) → tag.name ≡ name → tag.namespace ≡ ns → OpensFor (heard old.told) tag old new
OpensStart NeedsAttributes name ns old new = Opens false (length (heard old.told)) old new

-- A matcher after a refusal: it has failed, nothing is reported, and what it was told and what is open are as before.
abbrev pub refused_with : {T : Type 0} → Matching T → Matching T → Matching T
refused_with m new =
    record m {
      failed = true;
      matched = [];
      tries = new.tries;
      opened = false;
    }

-- a matcher after an end tag
abbrev pub with_ended : {T : Type 0} → Matching T → List ℕ → Matching T
with_ended m name =
    record m {
      told = ended_told m.told name;
      matched = [];
      opened = false;
      open_elements = open_after name m.open_elements;
      kept = take (length (open_after name m.open_elements)) m.kept;
    }
