-- What pushes and drains make of an empty list with charged slots.
use Rattle.std.specs.Prelude.{ℕ, ◌+◌, ◌≡◌, max, List, [], ◌∷◌, length}
use Rattle.std.specs.List.{remove_range}
use Rattle.lol_memory.specs.LimitedVec.{LimitedVec, pushed, with_items}
use Rattle.lol_memory.specs.Slots.{slots}

module _ (T : Type 0) where
  pub data Step : Type 0 where
    Pushed : T → Step  -- an element
    Drained : ℕ → ℕ → Step  -- so many elements, from an index on

module _ {T : Type 0} where
  abbrev pub empty_list : ℕ → LimitedVec T
  empty_list item_bytes = record { items = []; slots = 0; item_bytes = item_bytes }

  abbrev pub after_step : LimitedVec T → Step T → LimitedVec T
  after_step v (Pushed x) = pushed v x
  after_step v (Drained start count) = with_items v (remove_range v.items start (start + count))

  abbrev pub after_steps : LimitedVec T → List (Step T) → LimitedVec T
  after_steps v [] = v
  after_steps v (step ∷ steps) = after_steps (after_step v step) steps

  -- the greatest length on the way
  abbrev pub greatest_length : LimitedVec T → List (Step T) → ℕ
  greatest_length v [] = length v.items
  greatest_length v (step ∷ steps) = max (length v.items) (greatest_length (after_step v step) steps)

-- A list that began empty is charged for the slots of the greatest length that it had.
abbrev pub SlotsAreOfGreatestLength : Type 0 → Type 0
SlotsAreOfGreatestLength T =
    (item_bytes : ℕ) (steps : List (Step T))
    → (after_steps (empty_list item_bytes) steps).slots
    ≡ slots item_bytes (greatest_length (empty_list item_bytes) steps)
