-- What is charged for the open elements, and which event of a run is refused.
use Rattle.std.specs.Prelude.{ℕ, ◌+◌, ◌*◌, max, Bool, if◌then◌else◌, nat_lt, List, [], ◌∷◌, length, Option, Some, None}
use Rattle.lol_memory.specs.Slots.{slots}
use Rattle.lol_program.specs.Paths.{Selectors}
use Rattle.lol_machine.specs.Events.{Event, Start, End}
use Rattle.lol_machine.specs.Documents.{Document, empty, element_of}
use Rattle.lol_machine.specs.Answers.{after}

-- the most elements that are open at a time, from what has come before
abbrev pub longest_from : Selectors → Bool → Document → List Event → ℕ
longest_from s esi d [] = length d.open_elements
longest_from s esi d (event ∷ events) = max (length d.open_elements) (longest_from s esi (after s esi d event) events)

-- The most elements that were open at a time, in a run over these events.
abbrev pub longest : Selectors → Bool → List Event → ℕ
longest s esi events = longest_from s esi empty events

-- Why an event is refused: its charge would pass the limit, or its parent's counter of children is full.
pub data Cause : Type 0 where
  Limit : Cause
  Counter : Cause

-- What a run may use: the size of an item, the limiter's maximum, and its usage before the run.
pub record Allowance : Type 0 where
  pub item_bytes : ℕ
  pub maximum : ℕ
  pub usage : ℕ

-- whether the slots for so many open elements pass the maximum
abbrev pub exceeds : Allowance → ℕ → Bool
exceeds a longest = nat_lt a.maximum (slots a.item_bytes longest * a.item_bytes + a.usage)

-- Counters of children end at 2^31 - 1.
abbrev pub greatest_count : ℕ
greatest_count = 2147483647

-- whether an event is refused, where so many elements were open at a time before it; the counter is judged first
abbrev pub refusal : Selectors → Bool → Allowance → Document → ℕ → Event → Option Cause
refusal s esi a d most (Start tag) =
    if nat_lt greatest_count (element_of d tag).position then Some Counter
    else (if exceeds a (max most (length (after s esi d (Start tag)).open_elements)) then Some Limit else None)
refusal s esi a d most (End name) = None

abbrev pub or_later : ℕ → Option Cause → Option (ℕ × Cause) → Option (ℕ × Cause)
or_later number (Some cause) later = Some (number, cause)
or_later number None later = later

abbrev pub refused_from : Selectors → Bool → Allowance → Document → ℕ → List Event → Option (ℕ × Cause)
refused_from s esi a d most [] = None
refused_from s esi a d most (event ∷ events) =
    let next = after s esi d event in
    or_later d.events (refusal s esi a d most event) (refused_from s esi a next (max most (length next.open_elements)) events)

-- The number and the cause of the first event of a run that is refused.
abbrev pub refused : Selectors → Bool → Allowance → List Event → Option (ℕ × Cause)
refused s esi a events = refused_from s esi a empty 0 events
