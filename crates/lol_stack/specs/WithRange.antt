-- Lists of ranges that get one more.
use Rattle.std.specs.Prelude.{ℕ, List, ◌++◌, Option, option_to_list}
use Rattle.std.specs.declared.ops.Range.{Range}

-- the ranges with one more, if it is there
abbrev pub with_range : List (Range ℕ) → Option (Range ℕ) → List (Range ℕ)
with_range ranges range = ranges ++ option_to_list range

-- what stands where no range does
abbrev pub no_range : Range ℕ
no_range = record { start = 0; end = 0 }
