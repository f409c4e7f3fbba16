-- A program of instructions, and when it is one of selectors.
use Rattle.std.specs.Prelude.{ℕ, ◌-◌, ◌<◌, ◌≤◌, ◌≡◌, ◌≢◌, ◌↔◌, Bool, List, length, flat_map, slice_get, Option, Some, None, Contains, AllPairs}
use Rattle.std.specs.declared.ops.Range.{Range}
use Rattle.std.specs.List.{range_with_len, list_any}
use Rattle.lol_css.specs.declared.selector.Combinator.{Combinator}
use Rattle.lol_css.specs.declared.selector.Combinator.TheVariants.{Child, Descendant}
use Rattle.lol_instructions.specs.Tests.{Element}
use Rattle.lol_instructions.specs.Compounds.{Compound, all_hold, by_names, has_test_by_type}
use Rattle.lol_instructions.specs.Keys.{Keys, both_keys}
use Rattle.lol_program.specs.Paths.{Path, First, Then, Selectors, last_compound}
use Rattle.lol_instructions.specs.declared.name_value.NameValue.{NameValue}

-- 1. Ranges and instructions

-- A range has the addresses from its start up to its end.
abbrev pub IsWithin : ℕ → Range ℕ → Type 0
IsWithin address r = (r.start ≤ address) × (address < r.end)

abbrev pub addresses : Range ℕ → List ℕ
addresses r = range_with_len r.start (r.end - r.start)

-- the addresses of ranges, one range after the other
abbrev pub all_addresses : List (Range ℕ) → List ℕ
all_addresses ranges = flat_map addresses ranges

-- An instruction by its meaning: its value by names at an element, whether it holds there with the attributes, its keys, its ids, and where
-- the nodes under it stand, by a child step and by a descendant step.
pub record Instruction : Type 0 where
  pub value : Element → NameValue
  pub holds : Element → Bool
  pub keys : Keys
  pub ids : List ℕ
  pub jumps : Option (Range ℕ)
  pub hereditary_jumps : Option (Range ℕ)

pub record Program : Type 0 where
  pub entry : Range ℕ
  pub instructions : List Instruction
  pub by_type : Bool

-- 2. Nodes

-- what a path stands under: nothing, or a front and a step
abbrev pub above : Path → Option (Path × Combinator)
above (First c) = None
above (Then front step c) = Some (front, step)

abbrev pub IsAt : {A : Type 0} → List A → ℕ → A → Type 0
IsAt xs address x = slice_get xs address ≡ Some x

abbrev pub Once : {A : Type 0} → List A → Type 0
Once xs = AllPairs (λ a b. a ≢ b) xs

-- Nodes that hold what each of their members stands under, and the path of each pair; each node once. The nodes of every tree of
-- selectors are so, also where an addition was refused.
pub record AreClosed (s : Selectors) : Type 0 where
  pub once : Once s.nodes
  pub fronts : (front : Path) (step : Combinator) (c : Compound) → Contains s.nodes (Then front step c) → Contains s.nodes front
  pub paths : (path : Path) (id : ℕ) → Contains s.pairs (path, id) → Contains s.nodes path

-- 3. Programs

-- a range lies within the addresses and holds exactly those of the paths under this
pub record HoldsAddresses (paths : List Path) (r : Range ℕ) (under : Option (Path × Combinator)) : Type 0 where
  pub ordered : r.start ≤ r.end
  pub inside : r.end ≤ length paths
  pub members : (address : ℕ) → IsWithin address r ↔ ((path : Path) × IsAt paths address path × (above path ≡ under))

-- the range of the paths under this, which isn't empty; none where there is no such path
abbrev pub IsRangeOf : List Path → Option (Range ℕ) → Option (Path × Combinator) → Type 0
IsRangeOf paths None under = (address : ℕ) (path : Path) → IsAt paths address path → above path ≡ under → ⊥
IsRangeOf paths (Some r) under = HoldsAddresses paths r under × (r.start < r.end)

-- an instruction means a compound: at every element
abbrev pub Means : Instruction → Compound → Type 0
Means i c = (e : Element) → (i.value e ≡ by_names c e) × (i.holds e ≡ all_hold c e)

pub record IsInstruction (s : Selectors) (paths : List Path) (path : Path) (i : Instruction) : Type 0 where
  pub means : Means i (last_compound path)
  pub keys : i.keys ≡ both_keys (last_compound path)
  pub ids : (id : ℕ) → Contains i.ids id ↔ Contains s.pairs (path, id)
  pub jumps : IsRangeOf paths i.jumps (Some (path, Child))
  pub hereditary_jumps : IsRangeOf paths i.hereditary_jumps (Some (path, Descendant))

-- A program of selectors, whose address p is that of the p-th of these paths.
pub record IsProgramOf (s : Selectors) (paths : List Path) (p : Program) : Type 0 where
  pub same : (path : Path) → Contains paths path ↔ Contains s.nodes path
  pub once : Once paths
  pub count : length p.instructions ≡ length paths
  pub entry : HoldsAddresses paths p.entry None
  pub by_type : p.by_type ≡ list_any (λ path. has_test_by_type (last_compound path)) paths
  pub each : (address : ℕ) (path : Path) (i : Instruction) → IsAt paths address path → IsAt p.instructions address i → IsInstruction s paths path i

-- the range of an instruction by a step
abbrev pub range_by : Combinator → Instruction → Option (Range ℕ)
range_by Child i = i.jumps
range_by Descendant i = i.hereditary_jumps
