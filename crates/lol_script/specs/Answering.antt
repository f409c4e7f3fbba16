-- Tags that are answered as their lines are read.
use Rattle.std.specs.Prelude.{◌≡◌, ℕ, Bool, true, false, if◌then◌else◌, List, [], ◌∷◌, ◌++◌, map, Option, Some, None, Ok}
use Rattle.std.specs.List.{concat}
use Rattle.lol_base.specs.StartTags.{StartTag}
use Rattle.lol_instructions.specs.Tests.{Element}
use Rattle.lol_instructions.specs.Tries.{names_counted, attributes_counted}
use Rattle.lol_reasons.specs.AskedRuns.{bare_tag}
use Rattle.lol_matcher.specs.Answering.{refused_with}
use Rattle.lol_matcher.specs.Building.{started_with}
use Rattle.lol_matcher.specs.Refusing.{allowance, refusal_of}
use Rattle.lol_matcher.specs.Told.{Matching, elements_of, heard, numbers_open}
use Rattle.lol_matcher.specs.declared.error.MatcherError.{MatcherError}
use Rattle.lol_matcher.specs.declared.error.MatcherError.TheVariants.{MemoryLimitExceeded, Memory, CounterFull, Failed, NotAsked, OutsideInput}
use Rattle.lol_program.specs.Asts.{is_with_rows}
use Rattle.lol_program.specs.Paths.{Selectors}
use Rattle.lol_program.specs.declared.ast.Ast.{Ast}
use Rattle.lol_machine.specs.Answers.{Answer, Started, Dropped, answer, document}
use Rattle.lol_machine.specs.Documents.{empty, index_of, inner_part}
use Rattle.lol_machine.specs.Events.{Event, Start, End, has_content}
use Rattle.lol_machine.specs.Refusals.{Cause, Limit, Counter, refused}
use Rattle.lol_machine.specs.Views.{match_of, selectors}
use Rattle.lol_script.specs.Devices.{ReadsToEnd}
use Rattle.lol_script.specs.Explaining.{Explains}
use Rattle.lol_script.specs.ReadLines.{ReadLines}
use Rattle.lol_script.specs.Readings.{IsReadTo, IsTagLine}
use Rattle.lol_script.specs.Script.{line_at}
use Rattle.lol_script.specs.Scripts.{Output, Script, output, output_of, run_output, selectors_in, texts_for}
use Rattle.lol_script.specs.declared.device.Counted.{Counted}
use Rattle.lol_script.specs.declared.explained.Explained.{Explained}
use Rattle.lol_script.specs.declared.program.Status.TheVariants as status
use Rattle.lol_script.specs.declared.script_run.Outcome as outcome
use Rattle.lol_script.specs.declared.script_run.Outcome.TheVariants as outcomes
use Rattle.lol_script.specs.declared.script_run.ScriptRun.{ScriptRun}

-- 1. What a matcher is told

-- what it is told of a start tag: all, if its attributes are handed over, and else its name and its namespace
abbrev pub told_tag : StartTag → StartTag
told_tag tag = if tag.finish then tag else bare_tag tag.name tag.namespace

abbrev pub told_event : Event → Event
told_event (Start tag) = Start (told_tag tag)
told_event (End name) = End name

-- It was told nothing yet.
abbrev pub IsNewMatcher : Ast → ℕ → Bool → Matching (Unit {0}) → Type 0
IsNewMatcher ast limit esi m = m ≡ started_with ast limit 64 esi m.tries

-- what is answered to the last start tag
abbrev pub answer_with : outcome.Outcome → Matching (Unit {0}) → Answer
answer_with outcomes.Dropped m = Dropped
answer_with (outcomes.Reported asked) m = Started (map match_of m.matched) asked (names_counted m.tries) (attributes_counted m.tries)

-- whether it has opened an element
abbrev pub opens_with : outcome.Outcome → Bool → Bool
opens_with outcomes.Dropped content = false
opens_with (outcomes.Reported asked) content = content

-- A matcher keeps its selectors and its settings, and goes on.
pub record GoesOn (event : Event) (old new : Matching (Unit {0})) : Type 0 where
  pub ast : new.told.ast ≡ old.told.ast
  pub esi : new.told.esi ≡ old.told.esi
  pub memory : new.max_memory ≡ old.max_memory
  pub bytes : new.element_bytes ≡ old.element_bytes
  pub going : new.failed ≡ false
  pub heard_more : heard new.told ≡ heard old.told ++ event ∷ []
  pub elements : new.open_elements ≡ elements_of new.told

-- A start tag was answered.
pub record IsStarted (outcome : outcome.Outcome) (tag : StartTag) (old new : Matching (Unit {0})) : Type 0 where
  pub goes_on : GoesOn (Start tag) old new
  pub fits : refusal_of old (heard old.told) tag ≡ None
  pub answered : answer (selectors old.told.ast) old.told.esi (document (selectors old.told.ast) old.told.esi (heard old.told)) (Start tag) ≡ answer_with outcome new
  pub opened : new.opened ≡ opens_with outcome (has_content old.told.esi tag)

-- A start tag was refused.
pub record IsStopped (cause : Cause) (tag : StartTag) (old new : Matching (Unit {0})) : Type 0 where
  pub refused : refusal_of old (heard old.told) tag ≡ Some cause
  pub after : new ≡ refused_with old new

-- the cause of a refusal that isn't want of memory
abbrev pub IsCauseOf : MatcherError → Cause → Type 0
IsCauseOf MemoryLimitExceeded cause = cause ≡ Limit
IsCauseOf CounterFull cause = cause ≡ Counter
IsCauseOf Memory cause = ⊥
IsCauseOf Failed cause = ⊥
IsCauseOf NotAsked cause = ⊥
IsCauseOf OutsideInput cause = ⊥

-- the numbers of the elements that an end tag closes, of these, the outermost first
abbrev pub numbers_closed : List Element → List ℕ → List ℕ
numbers_closed elements name = numbers_open (inner_part (index_of name elements) elements)

-- 2. The tags so far

-- what is written for these events, and how the run ends
abbrev pub output_for : Selectors → Script → List Event → Output
output_for selectors s events = run_output (texts_for selectors s empty events) (refused selectors s.esi (allowance 64 s.limit) events)

-- The matcher was told of these events of a script, none of which selectors refuse.
pub record Hears (p : Selectors) (s : Script) (events : List Event) (m : Matching (Unit {0})) : Type 0 where
  pub esi : m.told.esi ≡ s.esi
  pub limit : m.max_memory ≡ s.limit
  pub bytes : m.element_bytes ≡ 64
  pub heard_is : heard m.told ≡ events
  pub elements : m.open_elements ≡ elements_of m.told
  pub fits : refused p s.esi (allowance 64 s.limit) events ≡ None

-- Its selectors are these or, if reasons are shown, the items of a script's, each under its number.
abbrev pub HasSelectors : Selectors → Script → Ast → Option Explained → Type 0
HasSelectors p s ast None = (s.explains ≡ false) × (p ≡ selectors ast)
HasSelectors p s ast (Some explained) = (s.explains ≡ true) × (p ≡ selectors_in s) × (is_with_rows ast ≡ (selectors_in s).by_keys) × Explains explained s ast

-- What was written for a script's events: the lines for each of them, unless one was refused; else the whole output, whatever comes later.
abbrev pub IsWritten : Selectors → Script → ScriptRun → Bool → Type 0
IsWritten p s code false =
    Hears p s (map told_event s.events) code.matcher × HasSelectors p s code.matcher.told.ast code.explained
    × (code.written.text.items ≡ concat (texts_for p s empty (map told_event s.events)))
IsWritten p s code true =
    (later : List Event) → output_for p s (map told_event (s.events ++ later)) ≡ record { text = code.written.text.items; status = status.Refused }

-- The code has answered the events of a script.
pub record AnswersScript (code : ScriptRun) (s : Script) : Type 0 where
  pub selectors : Selectors
  pub same : (events : List Event) → output_for selectors s (map told_event events) ≡ output_for (selectors_in s) s events
  pub shows_tries : code.shows_tries ≡ s.shows_tries
  pub written : IsWritten selectors s code code.matcher.failed

-- For each script whose events the code has answered.
abbrev pub ForAnswers : ScriptRun → (Script → Type 0) → Type 0
ForAnswers code holds = (s : Script) → AnswersScript code s → holds s

abbrev pub HasTags : Script → Type 0
HasTags s = s.events ≡ [] → ⊥

-- the line is that of a tag, if none was read
abbrev pub IsTagIfFirst : List ℕ → Script → Type 0
IsTagIfFirst line s = s.events ≡ [] → IsTagLine (line_at line)

-- 3. All tags

module _ {D : Type 0} (remaining : D → Option (List ℕ)) where
  -- For each start of the reading, and the script read from it up to a line, whose events the code has answered.
  abbrev pub ForTagLines : Counted D → ReadLines → ScriptRun → (Counted D → Type 0) → Type 0
  ForTagLines reader lines code holds =
      (start : Counted D) (s : Script) → IsReadTo remaining start reader lines lines.number s (lines.line ∷ [])
      → AnswersScript code s → IsTagIfFirst lines.line s → holds start

  -- The whole script was read, and its events are answered.
  abbrev pub IsReadWhole : Counted D → Counted D → ScriptRun → Type 0
  IsReadWhole start reader code =
      ReadsToEnd remaining start reader (λ script. (s : Script) × AnswersScript code s × (output script ≡ output_of (Ok s)))
