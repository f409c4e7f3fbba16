-- Counts by type as a function of level and name.
use Rattle.std.specs.Prelude.{ℕ, ◌+◌, ◌≤◌, ◌<◌, ◌≡◌, ◌&&◌, ◌==◌, nat_le, if◌then◌else◌, List, [], ◌∷◌, map, filter, unwrap_or}
use Rattle.std.specs.Str.{bytes_eq}
use Rattle.lol_base.specs.LocalNames.{Name}
use Rattle.lol_instructions.specs.Counters.{full_count}
use Rattle.lol_stack.specs.TypedCounts.{TypedCount, counted_by_type, cut_to, count_at, levels_of}

abbrev pub contributes : ℕ → List ℕ → TypedCount → ℕ
contributes level name t = if (t.level == level) && bytes_eq t.name.lowercased name then t.count else 0

-- What is counted of a name, by its bytes in lower case, at a level.
abbrev pub typed_of : List TypedCount → ℕ → List ℕ → ℕ
typed_of [] level name = 0
typed_of (t ∷ ts) level name = contributes level name t + typed_of ts level name

-- the levels, in the order in which their counters were started
abbrev pub levels_in : List TypedCount → List ℕ
levels_in ts = map (λ t. t.level) ts

abbrev pub first_or : ℕ → List ℕ → ℕ
first_or top [] = top
first_or top (level ∷ levels) = level

-- levels that don't fall, none above the top
abbrev pub Climb : ℕ → List ℕ → Type 0
Climb top [] = Unit {0}
Climb top (level ∷ levels) = (level ≤ first_or top levels) × Climb top levels

-- A child that is counted is one more at its level and name, and changes nothing else.
abbrev pub CountingAddsOne : Type 0
CountingAddsOne =
    (ts : List TypedCount) (level : ℕ) (name : Name) → typed_of ts level name.lowercased < full_count → (l : ℕ) (q : List ℕ)
    → typed_of (counted_by_type ts level name) l q ≡ typed_of ts l q + (if (level == l) && bytes_eq name.lowercased q then 1 else 0)

-- What is cut off are the levels above.
abbrev pub CuttingDropsAbove : Type 0
CuttingDropsAbove =
    (ts : List TypedCount) (level top : ℕ) → Climb top (levels_in ts) → (l : ℕ) (q : List ℕ)
    → typed_of (cut_to level ts) l q ≡ (if nat_le l level then typed_of ts l q else 0)

-- levels that rise strictly up to a level at most
abbrev pub IsRising : ℕ → List (ℕ × ℕ) → Type 0
IsRising level [] = Unit {0}
IsRising level (x ∷ []) = x.0 ≤ level
IsRising level (x ∷ y ∷ xs) = (x.0 < y.0) × IsRising level (y ∷ xs)

-- The counter that is found for a name at a level, not below one that the name has a counter at, has counted what is counted there.
abbrev pub CountsAtTheirLevel : Type 0
CountsAtTheirLevel =
    (ts : List TypedCount) (level : ℕ) (name : Name) → IsRising level (levels_of name ts) → unwrap_or (count_at ts level name) 0 ≡ typed_of ts level name.lowercased

-- The levels don't fall, none is above this one, and those of each name rise strictly.
pub record StandUpTo (level : ℕ) (ts : List TypedCount) : Type 0 where
  pub climb : Climb level (levels_in ts)
  pub rise : (name : Name) → IsRising level (levels_of name ts)

abbrev pub NoneStand : Type 0
NoneStand = (level : ℕ) → StandUpTo level []

-- A child is counted at a level that none is above.
abbrev pub CountingStands : Type 0
CountingStands =
    (ts : List TypedCount) (top level : ℕ) (name : Name) → StandUpTo top ts → top ≤ level
    → StandUpTo level (counted_by_type ts level name)

abbrev pub CuttingStands : Type 0
CuttingStands = (ts : List TypedCount) (top level : ℕ) → StandUpTo top ts → StandUpTo level (cut_to level ts)

-- What is left are the counters whose level isn't above.
abbrev pub CuttingFilters : Type 0
CuttingFilters =
    (ts : List TypedCount) (top level : ℕ) → Climb top (levels_in ts)
    → cut_to level ts ≡ filter (λ t. nat_le t.level level) ts
