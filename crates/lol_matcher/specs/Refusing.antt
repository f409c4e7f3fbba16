-- When a matcher refuses a start tag.
use Rattle.std.specs.Prelude.{ℕ, ◌≡◌, Bool, false, List, Option, Some, None}
use Rattle.lol_base.specs.StartTags.{StartTag}
use Rattle.lol_base.specs.declared.namespace.Namespace.{Namespace}
use Rattle.lol_program.specs.Paths.{Selectors}
use Rattle.lol_machine.specs.Answers.{document}
use Rattle.lol_machine.specs.Events.{Event, Start}
use Rattle.lol_machine.specs.FreeTags.{AreFlat, RunsWithoutMemory}
use Rattle.lol_machine.specs.Refusals.{Allowance, Cause, Limit, Counter, longest, refusal}
use Rattle.lol_machine.specs.Views.{selectors}
use Rattle.lol_matcher.specs.Told.{Matching, heard}
use Rattle.lol_matcher.specs.declared.error.MatcherError.{MatcherError}
use Rattle.lol_matcher.specs.declared.error.MatcherError.TheVariants.{MemoryLimitExceeded, Memory, CounterFull, Failed, NotAsked, OutsideInput}
use Rattle.lol_matcher.specs.declared.matcher.Started.{Started}
use Rattle.lol_matcher.specs.declared.matcher.Started.TheVariants.{Reported, NeedsAttributes}

-- so many bytes for each open element, and at most so many in all
abbrev pub allowance : ℕ → ℕ → Allowance
allowance element_bytes max_memory = record { item_bytes = element_bytes; maximum = max_memory; usage = 0 }

-- why a start tag after events is refused, if it is
abbrev pub refusal_after : Selectors → Bool → Allowance → List Event → StartTag → Option Cause
refusal_after s esi a events tag = refusal s esi a (document s esi events) (longest s esi events) (Start tag)

-- A start tag is refused for its cause; for memory only where its parent's counter isn't full, nor, where the tag is run without memory,
-- is the limit due.
abbrev pub IsRefusedFor : MatcherError → Type 0 → Option Cause → Type 0
IsRefusedFor MemoryLimitExceeded no_memory refusal = refusal ≡ Some Limit
IsRefusedFor CounterFull no_memory refusal = refusal ≡ Some Counter
IsRefusedFor Memory no_memory refusal = (refusal ≡ Some Counter → ⊥) × (no_memory → refusal ≡ Some Limit → ⊥)
IsRefusedFor Failed no_memory refusal = ⊥
IsRefusedFor NotAsked no_memory refusal = ⊥
IsRefusedFor OutsideInput no_memory refusal = ⊥

-- whether a start tag is refused that comes now, or the one that waits, once its attributes come
abbrev pub refusal_of : {T : Type 0} → Matching T → List Event → StartTag → Option Cause
refusal_of m events tag = refusal_after (selectors m.told.ast) m.told.esi (allowance m.element_bytes m.max_memory) events tag

-- A start tag of this name and namespace isn't refused: whatever its attributes are, or as long as they haven't come.
abbrev pub Fits : {T : Type 0} → Started → Matching T → List ℕ → Namespace → Type 0
Fits Reported m name ns = (tag : StartTag) → tag.name ≡ name → tag.namespace ≡ ns → refusal_of m (heard m.told) tag ≡ None
Fits NeedsAttributes m name ns = (tag : StartTag) → tag.name ≡ name → tag.namespace ≡ ns → tag.finish ≡ false → refusal_of m (heard m.told) tag ≡ None

-- It is refused for this.
abbrev pub RefusesStart : {T : Type 0} → MatcherError → Matching T → List ℕ → Namespace → Type 0
RefusesStart error m name ns =
    (tag : StartTag) → tag.name ≡ name → tag.namespace ≡ ns
    → IsRefusedFor error (RunsWithoutMemory (selectors m.told.ast) m.told.esi (heard m.told) tag) (refusal_of m (heard m.told) tag)

-- A start tag is refused for this, whose attributes are at hand.
abbrev pub RefusesStartWith : {T : Type 0} → MatcherError → Matching T → StartTag → Type 0
RefusesStartWith error m tag = IsRefusedFor error (AreFlat (selectors m.told.ast)) (refusal_of m (heard m.told) tag)

-- The start tag that waits is refused for this.
abbrev pub RefusesFinish : {T : Type 0} → MatcherError → Matching T → StartTag → Type 0
RefusesFinish error m tag = IsRefusedFor error (AreFlat (selectors m.told.ast)) (refusal_of m m.told.events tag)
