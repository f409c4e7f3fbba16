-- The list that an `AddressRanges` keeps.
use Rattle.std.specs.Prelude.{ℕ, ◌<◌, vec_len, List, [], ◌∷◌}
use Rattle.std.specs.declared.ops.Range.{Range}
use Rattle.lol_stack.specs.declared.address_ranges.Ranges.{Ranges}
use Rattle.lol_stack.specs.declared.address_ranges.Ranges.TheVariants.{None, One, Many}

abbrev pub ranges_of : Ranges → List (Range ℕ)
ranges_of None = []
ranges_of (One range) = range ∷ []
ranges_of (Many ranges) = ranges.items

-- several ranges are at least one
abbrev pub IsFilled : Ranges → Type 0
IsFilled None = Unit {0}
IsFilled (One range) = Unit {0}
IsFilled (Many ranges) = 0 < vec_len ranges
