-- Ranges that hold for all elements inside the open ones.
use Rattle.std.specs.Prelude.{ℕ, Bool, ◌&&◌, ◌==◌, ◌+◌, if◌then◌else◌, List, [], ◌∷◌, ◌++◌}
use Rattle.std.specs.List.{list_any}
use Rattle.std.specs.declared.ops.Range.{Range}

abbrev pub is_same_range : Range ℕ → Range ℕ → Bool
is_same_range a b = (a.start == b.start) && (a.end == b.end)

-- whether a range is among the active ones
abbrev pub is_range_active : List (Range ℕ × ℕ) → Range ℕ → Bool
is_range_active active r = list_any (λ a. is_same_range a.0 r) active

-- The active ranges with those of an element that weren't among them, each with the element's depth.
abbrev pub activated : List (Range ℕ × ℕ) → ℕ → List (Range ℕ) → List (Range ℕ × ℕ)
activated active depth [] = active
activated active depth (r ∷ ranges) = activated (if is_range_active active r then active else active ++ (r, depth) ∷ []) depth ranges

-- The active ranges after more elements, from a depth on, each with its hereditary ranges.
abbrev pub active_after : List (Range ℕ × ℕ) → ℕ → List (List (Range ℕ)) → List (Range ℕ × ℕ)
active_after active depth [] = active
active_after active depth (ranges ∷ more) = active_after (activated active depth ranges) (depth + 1) more

-- The distinct ranges of elements by first appearance, from the outermost on, each with the depth of the first element that has it.
abbrev pub active_ranges_of : List (List (Range ℕ)) → List (Range ℕ × ℕ)
active_ranges_of ranges = active_after [] 0 ranges
