-- Lines and columns. A line ends behind a line feed, a carriage return, or a carriage return and a line feed (HTML Standard, 13.2.3.5,
-- "Preprocessing the input stream").
use Rattle.std.specs.Prelude.{ℕ, ◌+◌, ◌≡◌, ◌==◌, true, false, if◌then◌else◌, List, [], ◌∷◌, fold}
use Rattle.lol_page.specs.declared.position.Position.{Position}

abbrev pub origin : Position
origin = record { line_ends = 0; column = 0; after_return = false }

-- the place behind one more byte: 10 is a line feed, 13 a carriage return
unfoldable pub moved_by : Position → ℕ → Position
moved_by p b =
    if b == 13 then record { line_ends = p.line_ends + 1; column = 0; after_return = true }
    else (if b == 10
    then record { line_ends = (if p.after_return then p.line_ends else p.line_ends + 1); column = 0; after_return = false }
    else record { line_ends = p.line_ends; column = p.column + 1; after_return = false })

abbrev pub moved_over : Position → List ℕ → Position
moved_over p bytes = fold moved_by p bytes

-- how many lines end in some bytes, and how many bytes stand behind the last end
abbrev pub position_behind : List ℕ → Position
position_behind bytes = moved_over origin bytes

-- none of these bytes ends a line
abbrev pub ArePlain : List ℕ → Type 0
ArePlain [] = Unit {0}
ArePlain (b ∷ bytes) = ((b == 13) ≡ false) × ((b == 10) ≡ false) × ArePlain bytes
