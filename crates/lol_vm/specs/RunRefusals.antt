-- What a refused run tells.
use Rattle.std.specs.Prelude.{ℕ, ◌≡◌, ◌<◌, ◌≤◌, ◌⊎◌, Bool, List, ◌∷◌, ◌++◌, length, Option, Some}
use Rattle.lol_base.specs.StartTags.{StartTag}
use Rattle.lol_memory.specs.Limiter.{Limiter}
use Rattle.lol_program.specs.Paths.{Selectors}
use Rattle.lol_machine.specs.Events.{Event, Start}
use Rattle.lol_machine.specs.FreeTags.{RunsWithoutMemory}
use Rattle.lol_machine.specs.Refusals.{Allowance, Cause, Limit, Counter}
use Rattle.lol_vm.specs.declared.events.RunCause.{RunCause}
use Rattle.lol_vm.specs.declared.events.RunCause.TheVariants.{MemoryLimitExceeded, CounterFull, Memory}
use Rattle.lol_vm.specs.declared.events.RunRefusal.{RunRefusal}

-- what a run may use, by the limiter before it
abbrev pub allowance_of : ℕ → Limiter → Allowance
allowance_of item_bytes limiter = record { item_bytes = item_bytes; maximum = limiter.maximum; usage = limiter.usage }

-- where memory may be refused, if the event n is to be refused: at it or before, but only before one whose counter is full, since that
-- is judged first and takes no memory
abbrev pub IsUntil : Cause → ℕ → ℕ → Type 0
IsUntil Limit n event = event ≤ n
IsUntil Counter n event = event < n

-- an event stopped a run for this cause, where this one is the first that is to be refused
abbrev pub StopsFor : RunCause → ℕ → Option (ℕ × Cause) → Type 0
StopsFor MemoryLimitExceeded event first = first ≡ Some (event, Limit)
StopsFor CounterFull event first = first ≡ Some (event, Counter)
StopsFor Memory event first = (n : ℕ) (c : Cause) → first ≡ Some (n, c) → IsUntil c n event

-- The event and the cause of a refusal are those of the first event that is to be refused; where memory was refused, no event before
-- is, nor is this one for its counter.
abbrev pub IsRefusedAt : RunRefusal → Option (ℕ × Cause) → Type 0
IsRefusedAt refusal first = StopsFor refusal.cause refusal.event first

-- Where the first event that is to be refused is a start tag that is run without memory, and its limit is due, memory is refused before
-- it alone, or before the first event of all.
abbrev pub StopsBeforeLimit : Selectors → Bool → List Event → RunCause → ℕ → Option (ℕ × Cause) → Type 0
StopsBeforeLimit s esi events MemoryLimitExceeded event first = Unit {0}
StopsBeforeLimit s esi events CounterFull event first = Unit {0}
StopsBeforeLimit s esi events Memory event first =
    (before later : List Event) (tag : StartTag) → events ≡ before ++ Start tag ∷ later → RunsWithoutMemory s esi before tag → first ≡ Some (length before, Limit)
    → (event < length before) ⊎ (event ≡ 0)
