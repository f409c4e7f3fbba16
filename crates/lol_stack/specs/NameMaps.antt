-- Values by name, in slots and in blocks.
use Rattle.std.specs.Prelude.{ℕ, ◌≡◌, ◌%◌, true, if◌then◌else◌, List, [], slice_index_or, Option, Some, None}
use Rattle.std.specs.Option.{option_or}
use Rattle.lol_base.specs.LocalNames.{Name, same_local_name, code_or_last}
use Rattle.lol_stack.specs.NameBlocks as blocks
use Rattle.lol_stack.specs.NameBlocks.{is_named}
use Rattle.lol_stack.specs.declared.name_map.NamePlace.{NamePlace}
use Rattle.lol_stack.specs.declared.name_map.NamePlace.TheVariants.{Slot, Overflow}

-- the slots, and the blocks of the names that found theirs taken
pub record SlottedNames (V : Type 0) : Type 0 where
  pub slots : List (Option (Name × V))
  pub overflow : List (List (Name × V))

-- the slot of a name
abbrev pub slot_of : Name → ℕ
slot_of name = code_or_last name % 64

module _ {V : Type 0} where
  abbrev pub no_names : SlottedNames V
  no_names = record { slots = []; overflow = [] }

  -- what stands in a slot
  abbrev pub in_slot : List (Option (Name × V)) → ℕ → Option (Name × V)
  in_slot slots slot = slice_index_or slots slot None

  -- the value of an entry, if it is of this name
  abbrev pub value_if : Name → Option (Name × V) → Option V
  value_if name None = None
  value_if name (Some e) = if same_local_name e.0 name then Some e.1 else None

  -- the value that a name has in its slot
  abbrev pub value_in_slot : List (Option (Name × V)) → Name → Option V
  value_in_slot slots name = value_if name (in_slot slots (slot_of name))

  -- the value of a name
  abbrev pub value_of : SlottedNames V → Name → Option V
  value_of map name = option_or (value_in_slot map.slots name) (blocks.value_in_blocks map.overflow name)

  -- no name that stands in its slot stands in the blocks
  abbrev pub AreApart : List (Option (Name × V)) → List (List (Name × V)) → Type 0
  AreApart slots overflow = (name : Name) (value : V) → value_in_slot slots name ≡ Some value → blocks.value_in_blocks overflow name ≡ None

  -- the name stands at the place
  abbrev pub StandsInMap : SlottedNames V → Name → NamePlace → Type 0
  StandsInMap map name (Slot slot) = (slot ≡ slot_of name) × (is_named (in_slot map.slots slot) name ≡ true)
  StandsInMap map name (Overflow place) = (value_in_slot map.slots name ≡ None) × blocks.StandsInBlocks map.overflow name place

  -- some name stands at the place
  abbrev pub IsTaken : SlottedNames V → NamePlace → Type 0
  IsTaken map place = (name : Name) × StandsInMap map name place

  -- the name stands nowhere, and would stand at the place
  abbrev pub IsMissing : SlottedNames V → Name → NamePlace → Type 0
  IsMissing map name (Slot slot) = (slot ≡ slot_of name) × (in_slot map.slots slot ≡ None) × (blocks.value_in_blocks map.overflow name ≡ None)
  IsMissing map name (Overflow place) = (value_in_slot map.slots name ≡ None) × blocks.IsMissing map.overflow name place

  -- the name has this value, and the others have theirs
  abbrev pub IsPutAt : Name → Option V → SlottedNames V → SlottedNames V → Type 0
  IsPutAt name value old new = (q : Name) → value_of new q ≡ (if same_local_name name q then value else value_of old q)
