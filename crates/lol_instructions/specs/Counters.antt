-- Counts of children.
use Rattle.std.specs.Prelude.{ℕ, ℤ, pos, negsuc}

-- the greatest number of a counter, that of i32
abbrev pub full_count : ℕ
full_count = 2147483647

-- a signed number as a number from 0
abbrev pub number_of : ℤ → ℕ
number_of (pos n) = n
number_of (negsuc n) = 0
