-- What a `TypedChildCounterMap` keeps.
use Rattle.std.specs.Prelude.{ℕ, ◌≡◌, if◌then◌else◌, List, [], ◌∷◌, drop}
use Rattle.lol_base.specs.LocalNames.{Name, same_local_name}
use Rattle.lol_stack.specs.TypedCounts.{TypedCount, levels_of}

abbrev pub first_count : List (ℕ × ℕ) → ℕ
first_count [] = 0
first_count (x ∷ xs) = x.1

-- the levels of each name, without the first of one
abbrev pub without_first : Name → (Name → List (ℕ × ℕ)) → Name → List (ℕ × ℕ)
without_first name levels q = if same_local_name name q then drop 1 (levels q) else levels q

-- The counters: level and name of each stand in one list, in the order in which they were started, and the counts with the names.
abbrev pub typed_counts_of : List (ℕ × Name) → (Name → List (ℕ × ℕ)) → List TypedCount
typed_counts_of [] levels = []
typed_counts_of (k ∷ kept) levels = record { level = k.0; name = k.1; count = first_count (levels k.1) } ∷ typed_counts_of kept (without_first k.1 levels)

-- each name has the levels that its counters have
abbrev pub AreLevels : (Name → List (ℕ × ℕ)) → List TypedCount → Type 0
AreLevels levels ts = (q : Name) → levels q ≡ levels_of q ts
