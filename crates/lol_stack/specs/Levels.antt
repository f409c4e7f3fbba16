-- Levels, and what was counted at each.
use Rattle.std.specs.Prelude.{ℕ, ◌+◌, ◌-◌, Bool, false, ◌==◌, nat_lt, if◌then◌else◌, List, [], ◌∷◌, take, length, Option, Some, None}
use Rattle.lol_instructions.specs.Counters.{full_count}

-- a full counter counts no more
abbrev pub one_more : ℕ → ℕ
one_more count = if nat_lt count full_count then count + 1 else count

-- whether the last level is this
abbrev pub is_at_level : ℕ → List (ℕ × ℕ) → Bool
is_at_level level [] = false
is_at_level level (x ∷ []) = x.0 == level
is_at_level level (x ∷ y ∷ xs) = is_at_level level (y ∷ xs)

-- what was counted at the last level, if that is this one
abbrev pub count_if_at : ℕ → List (ℕ × ℕ) → Option ℕ
count_if_at level [] = None
count_if_at level (x ∷ []) = if x.0 == level then Some x.1 else None
count_if_at level (x ∷ y ∷ xs) = count_if_at level (y ∷ xs)

-- the levels with one more counted at the last
abbrev pub counted_at_last : List (ℕ × ℕ) → List (ℕ × ℕ)
counted_at_last [] = []
counted_at_last (x ∷ []) = (x.0, one_more x.1) ∷ []
counted_at_last (x ∷ y ∷ xs) = x ∷ counted_at_last (y ∷ xs)

abbrev pub without_last : {A : Type 0} → List A → List A
without_last xs = take (length xs - 1) xs
