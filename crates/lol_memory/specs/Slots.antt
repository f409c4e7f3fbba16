-- How many slots are charged for a list that grows.
use Rattle.std.specs.Prelude.{ℕ, zero, suc, ◌+◌, ◌*◌, ◌/◌, max, if◌then◌else◌, nat_lt, nat_le}

-- the fewest slots that are charged, for items of a size
abbrev pub minimum_slots : ℕ → ℕ
minimum_slots item_bytes = max 8 (128 / item_bytes)

-- a size, or the first of its doublings that is at least n, of so many
abbrev pub doubled_to : ℕ → ℕ → ℕ → ℕ
doubled_to n size zero = size
doubled_to n size (suc times) = if nat_le n size then size else doubled_to n (2 * size) times

-- The slots that are charged once a list was at most so long: none while it was empty, then the least doubling of the
-- fewest slots that holds it.
abbrev pub slots : ℕ → ℕ → ℕ
slots item_bytes zero = 0
slots item_bytes (suc n) = doubled_to (suc n) (minimum_slots item_bytes) (suc n)

-- the slots after one more push, of so many that are charged for so many elements
abbrev pub slots_after : ℕ → ℕ → ℕ → ℕ
slots_after item_bytes n elements = if nat_lt elements n then n else n + max n (minimum_slots item_bytes)
