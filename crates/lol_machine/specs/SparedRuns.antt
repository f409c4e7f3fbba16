-- What of a start tag's ranges is run where a program has rows.
use Rattle.std.specs.Prelude.{ℕ, ◌+◌, ◌-◌, ◌^◌, ◌≡◌, ◌≤◌, ◌<◌, min, Bool, true, false, if◌then◌else◌, List, map, flat_map, length, Option, Some, None, Result, Ok, Err}
use Rattle.std.specs.List.{list_any}
use Rattle.std.specs.Vec.{vec_capacity}
use Rattle.std.specs.declared.ops.Range.{Range}
use Rattle.lol_instructions.specs.Attributes.{TagAttributes}
use Rattle.lol_instructions.specs.declared.instruction.Instruction.{Instruction}
use Rattle.lol_program.specs.Paths.{Selectors}
use Rattle.lol_program.specs.ProgramViews.{HasItsRows, has_rows}
use Rattle.lol_program.specs.declared.program.Program.{Program}
use Rattle.lol_rows.specs.Rows.{is_left_by_keys, is_left_by_name, is_left_open, passing, some_pass}
use Rattle.lol_rows.specs.declared.rows.Rows.{Rows}
use Rattle.lol_machine.specs.declared.spared_runs.RowSpace.{RowSpace}
use Rattle.lol_machine.specs.declared.tag_runs.RecoveryPoint.{RecoveryPoint}
use Rattle.lol_machine.specs.declared.tag_runs.RecoveryPoint.TheVariants.{AtOnce, At}

-- 1. Addresses as ranges

-- an address as a range of one
abbrev pub single : ℕ → Range ℕ
single address = record { start = address; end = min (address + 1) (2 ^ 64 - 1) }

abbrev pub singles : List ℕ → List (Range ℕ)
singles addresses = map single addresses

-- the addresses of the instructions of ranges that pass, range by range
abbrev pub all_passing : (Instruction → Bool) → List Instruction → List (Range ℕ) → List ℕ
all_passing p instructions ranges = flat_map (passing p instructions) ranges

-- 2. What is run

-- what a run that stopped at a point goes on in: what the name leaves, or where nothing was run what the name and the attributes leave
abbrev pub left_at_point : List ℕ → TagAttributes → RecoveryPoint → Instruction → Bool
left_at_point name seen AtOnce = is_left_by_keys name seen
left_at_point name seen (At stop) = is_left_by_name name

-- whether rows know an instruction of ranges that the name leaves and that needs attributes
abbrev pub opens_by_rows : Option Rows → List ℕ → List Instruction → List (Range ℕ) → Bool
opens_by_rows None name instructions ranges = false
opens_by_rows (Some rows) name instructions ranges = list_any (some_pass (is_left_open name) instructions) ranges

module _ (p : Program) where
  abbrev pub opens_at_once : List ℕ → List (Range ℕ) → Bool
  opens_at_once name ranges = opens_by_rows p.rows name p.instructions.items ranges

  -- of ranges, those of what passes, where the program has rows
  abbrev pub spared : (Instruction → Bool) → List (Range ℕ) → List (Range ℕ)
  spared left ranges = if has_rows p then singles (all_passing left p.instructions.items ranges) else ranges

  -- what of ranges is tried for a tag of a name in lower case
  abbrev pub ranges_by_name : List ℕ → List (Range ℕ) → List (Range ℕ)
  ranges_by_name name ranges = spared (is_left_by_name name) ranges

  -- what a run that stopped at a point was run through: nothing was tried yet, or what the name leaves
  abbrev pub ranges_before : List ℕ → List (Range ℕ) → RecoveryPoint → List (Range ℕ)
  ranges_before name ranges AtOnce = ranges
  ranges_before name ranges (At stop) = ranges_by_name name ranges

  -- what it goes on in
  abbrev pub ranges_after : List ℕ → TagAttributes → List (Range ℕ) → RecoveryPoint → List (Range ℕ)
  ranges_after name seen ranges point = spared (left_at_point name seen point) ranges

-- where a run by name stopped, if it wasn't refused
abbrev pub stopped_by : {R : Type 0} → Result (Unit {0}) R → RowSpace → Result (Option RecoveryPoint) R
stopped_by (Ok done) space = Ok space.stopped
stopped_by (Err error) space = Err error

-- 3. Room

-- there is room for what is left of ranges that have so many addresses
abbrev pub HasRoomFor : RowSpace → ℕ → Type 0
HasRoomFor space count = count ≤ vec_capacity space.left

-- of a program with rows there is room for all instructions
abbrev pub HasRowRoom : Program → RowSpace → Type 0
HasRowRoom p space = has_rows p ≡ true → HasRoomFor space (length p.instructions.items)

-- A program and its room are of selectors: it has rows where their nodes are spared, those of its instructions, and room for what they leave.
pub record IsSparing (s : Selectors) (p : Program) (space : RowSpace) : Type 0 where
  pub mode : has_rows p ≡ s.by_keys
  pub rows : HasItsRows p
  pub room : HasRowRoom p space
  pub size : length p.instructions.items < 2 ^ 63
