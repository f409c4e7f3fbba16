-- A matcher that is told events one by one.
use Rattle.std.specs.Prelude.{ℕ, ◌≡◌, ◌<◌, ◌^◌, false, Bool, List, [], ◌∷◌, ◌++◌, length, map, Option, None}
use Rattle.lol_base.specs.StartTags.{StartTag}
use Rattle.lol_base.specs.declared.namespace.Namespace.{Namespace}
use Rattle.lol_instructions.specs.Tries.{attributes_counted, names_counted}
use Rattle.lol_program.specs.Paths.{Selectors}
use Rattle.lol_program.specs.declared.ast.Ast.{Ast}
use Rattle.lol_reasons.specs.AskedRuns.{AreTold}
use Rattle.lol_machine.specs.Answers.{Answer, Started, answer, document}
use Rattle.lol_machine.specs.Events.{Event, Start, End}
use Rattle.lol_machine.specs.FreeTags.{RunsWithoutMemory}
use Rattle.lol_machine.specs.Refusals.{Allowance, Cause, longest, refusal, refused}
use Rattle.lol_machine.specs.Views.{match_of, selectors}
use Rattle.lol_matcher.specs.Refusing.{IsRefusedFor, allowance}
use Rattle.lol_matcher.specs.Told.{Matching, elements_of, heard}
use Rattle.lol_matcher.specs.declared.error.MatcherError.{MatcherError}
use Rattle.lol_matcher.specs.declared.error.MatcherError.TheVariants.{CounterFull, Failed, Memory, MemoryLimitExceeded, NotAsked, OutsideInput}
use Rattle.lol_vm.specs.TagEvents.{answer_of}
use Rattle.lol_vm.specs.declared.events.RunCause.{RunCause}
use Rattle.lol_vm.specs.declared.events.RunCause.TheVariants as causes
use Rattle.lol_vm.specs.declared.events.TagReport.{TagReport}

-- A matcher over selectors was told events, of each as much as it asks for, and none was refused.
pub record WasTold {T : Type 0} (ast : Ast) (esi : Bool) (a : Allowance) (events : List Event) (m : Matching T) : Type 0 where
  pub well : m.failed ≡ false
  pub tree : m.told.ast ≡ ast
  pub switch : m.told.esi ≡ esi
  pub allowed : allowance m.element_bytes m.max_memory ≡ a
  pub told : AreTold (selectors ast) esi events (heard m.told)
  pub opened : m.open_elements ≡ elements_of m.told
  pub fits : refused (selectors ast) esi a events ≡ None

-- For each run that was told nothing yet.
abbrev pub ForNew : {T : Type 0} → Matching T → (Ast → Bool → Allowance → Type 0) → Type 0
ForNew m holds = (ast : Ast) (esi : Bool) (a : Allowance) → WasTold ast esi a [] m → holds ast esi a

-- For each run, of events that can be counted.
abbrev pub ForTold : {T : Type 0} → Matching T → (Ast → Bool → Allowance → List Event → Type 0) → Type 0
ForTold m holds =
    (ast : Ast) (esi : Bool) (a : Allowance) (events : List Event) → WasTold ast esi a events m → length events < 2 ^ 64
    → holds ast esi a events

-- the answer to a start tag that was reported
abbrev pub reported_as : {T : Type 0} → Bool → Matching T → Answer
reported_as asked m = Started (map match_of m.matched) asked (names_counted m.tries) (attributes_counted m.tries)

-- One event more was answered.
pub record AnswersOne {T : Type 0} (ast : Ast) (esi : Bool) (a : Allowance) (events : List Event) (event : Event) (report : TagReport) (new : Matching T) : Type 0 where
  pub answered : answer_of report ≡ answer (selectors ast) esi (document (selectors ast) esi events) event
  pub goes_on : WasTold ast esi a (events ++ event ∷ []) new

-- why an event after these is refused, if it is
abbrev pub refusal_at : Selectors → Bool → Allowance → List Event → Event → Option Cause
refusal_at s esi a events event = refusal s esi a (document s esi events) (longest s esi events) event

-- a start tag that is run without memory
abbrev pub IsWithoutMemory : Selectors → Bool → List Event → Event → Type 0
IsWithoutMemory s esi events (Start tag) = RunsWithoutMemory s esi events tag
IsWithoutMemory s esi events (End name) = ⊥

-- It is refused for this.
abbrev pub RefusesEvent : MatcherError → Ast → Bool → Allowance → List Event → Event → Type 0
RefusesEvent error ast esi a events event =
    IsRefusedFor error (IsWithoutMemory (selectors ast) esi events event) (refusal_at (selectors ast) esi a events event)

-- For each start tag of this name and namespace that isn't finished.
abbrev pub ForUnfinished : List ℕ → Namespace → (StartTag → Type 0) → Type 0
ForUnfinished name ns holds = (tag : StartTag) → tag.name ≡ name → tag.namespace ≡ ns → tag.finish ≡ false → holds tag

-- the cause that a run is stopped for, where a tag is refused for this
abbrev pub IsCauseOf : MatcherError → RunCause → Type 0
IsCauseOf MemoryLimitExceeded cause = cause ≡ causes.MemoryLimitExceeded
IsCauseOf CounterFull cause = cause ≡ causes.CounterFull
IsCauseOf Memory cause = cause ≡ causes.Memory
IsCauseOf Failed cause = cause ≡ causes.Memory
IsCauseOf NotAsked cause = cause ≡ causes.Memory
IsCauseOf OutsideInput cause = cause ≡ causes.Memory
