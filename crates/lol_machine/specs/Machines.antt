-- What a machine keeps of the open elements.
use Rattle.std.specs.Prelude.{ℕ, ◌≡◌, ◌↔◌, true, List, [], ◌∷◌, ◌++◌, map, reverse, length, Option, Some, Contains}
use Rattle.std.specs.declared.ops.Range.{Range}
use Rattle.lol_base.specs.LocalNames.{Name}
use Rattle.lol_base.specs.Names.{lowercased}
use Rattle.lol_instructions.specs.Tests.{Element}
use Rattle.lol_program.specs.Paths.{Path}
use Rattle.lol_machine.specs.Matching.{matches, left_matches}
use Rattle.lol_stack.specs.Active.{activated}
use Rattle.lol_machine.specs.TagRuns.{ranges_of_active}
use Rattle.lol_stack.specs.declared.stack_item.StackItemOf.{StackItemOf}
use Rattle.lol_program.specs.Programs.{Instruction, Program, IsAt, Once, all_addresses}

-- An open element: its name in ASCII lower case, and the ranges that it gives to elements right inside it, and to all inside it.
pub record OpenItem : Type 0 where
  pub name : List ℕ
  pub jumps : List (Range ℕ)
  pub hereditary_jumps : List (Range ℕ)

module _ {E : Type 0} where
  abbrev pub item_shown : StackItemOf Name E → OpenItem
  item_shown item =
      record { name = item.local_name.lowercased; jumps = item.jumps; hereditary_jumps = item.hereditary_jumps }

  -- a stack's elements, the innermost first
  abbrev pub items_shown : List (StackItemOf Name E) → List OpenItem
  items_shown items = reverse (map item_shown items)

  -- how many children each of them had
  abbrev pub children_shown : List (StackItemOf Name E) → List ℕ
  children_shown items = reverse (map (λ item. item.child_counter) items)

-- some address has a path with P, and an instruction with this range
abbrev pub IsReached : (Instruction → Option (Range ℕ)) → List Path → Program → (Path → Type 0) → Range ℕ → Type 0
IsReached which paths p P r =
    (address : ℕ) × (path : Path) × (i : Instruction) × IsAt paths address path × IsAt p.instructions address i × (which i ≡ Some r) × P path

-- the ranges of the paths with P, each once
pub record HasRanges (which : Instruction → Option (Range ℕ)) (paths : List Path) (p : Program) (P : Path → Type 0) (ranges : List (Range ℕ)) : Type 0 where
  pub once : Once ranges
  pub members : (r : Range ℕ) → Contains ranges r ↔ IsReached which paths p P r

abbrev pub Matches : Element → List Element → Path → Type 0
Matches e outer path = matches path e outer ≡ true

abbrev pub jumps_of : Instruction → Option (Range ℕ)
jumps_of i = i.jumps

abbrev pub hereditary_jumps_of : Instruction → Option (Range ℕ)
hereditary_jumps_of i = i.hereditary_jumps

-- the item of an element inside these ones
pub record IsItem (paths : List Path) (p : Program) (item : OpenItem) (e : Element) (outer : List Element) : Type 0 where
  pub name : item.name ≡ lowercased e.tag.name
  pub jumps : HasRanges jumps_of paths p (Matches e outer) item.jumps
  pub hereditary_jumps : HasRanges hereditary_jumps_of paths p (Matches e outer) item.hereditary_jumps

-- The items, the innermost first, are those of the open elements. This part alone survives a refusal.
abbrev pub AreItems : List Path → Program → List OpenItem → List Element → Type 0
AreItems paths p [] [] = Unit {0}
AreItems paths p (item ∷ items) (e ∷ outer) = IsItem paths p item e outer × AreItems paths p items outer
AreItems paths p [] (e ∷ outer) = ⊥
AreItems paths p (item ∷ items) [] = ⊥

-- The active ranges

-- The distinct hereditary ranges of the items by first appearance, from the outermost item on, each with the depth of the first
-- item that has it, counted from the outermost, which is 0.
abbrev pub active_of : List OpenItem → List (Range ℕ × ℕ)
active_of [] = []
active_of (item ∷ outer) = activated (active_of outer) (length outer) item.hereditary_jumps

-- What is run for a start tag: the entry points, the last open item's jumps, the active ranges.

abbrev pub last_jumps : List OpenItem → List (Range ℕ)
last_jumps [] = []
last_jumps (item ∷ outer) = item.jumps

abbrev pub ranges_to_run : Program → List OpenItem → List (Range ℕ)
ranges_to_run p items = p.entry ∷ (last_jumps items ++ ranges_of_active (active_of items))

-- ranges that hold the address of each path with P once, and no other address
pub record HoldOnce (paths : List Path) (ranges : List (Range ℕ)) (P : Path → Type 0) : Type 0 where
  pub once : Once (all_addresses ranges)
  pub members : (address : ℕ) → Contains (all_addresses ranges) address ↔ ((path : Path) × IsAt paths address path × P path)

abbrev pub LeftMatches : List Element → Path → Type 0
LeftMatches outer path = left_matches path outer ≡ true
