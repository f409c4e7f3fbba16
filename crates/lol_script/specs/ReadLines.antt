-- Lines that are read one by one.
use Rattle.std.specs.Prelude.{ℕ, ◌+◌, ◌*◌, ◌≤◌, ◌≡◌, ◌==◌, Bool, true, false, List, [], ◌++◌, take, drop, length, position, Option, Some, None, if◌then◌else◌}
use Rattle.std.specs.Io.KnownBytes.{IsAtEnd}
use Rattle.std.specs.List.{slice_split}
use Rattle.lol_base.specs.CodePoints.{line_feed}
use Rattle.lol_script.specs.Devices.{Reads, device_of}
use Rattle.lol_script.specs.declared.device.Counted.{Counted}

-- A line, what was read after it, its number, and whether it is the last.
pub record ReadLines : Type 0 where
  pub line : List ℕ
  pub unread : List ℕ
  pub number : ℕ
  pub is_last : Bool

abbrev pub is_line_feed : ℕ → Bool
is_line_feed b = b == line_feed

-- before the first line
abbrev pub no_lines : ReadLines
no_lines = record { line = []; unread = []; number = 0; is_last = false }

abbrev pub cut_at : ℕ → List ℕ → Option ℕ → ReadLines
cut_at number bytes (Some offset) = record { line = take offset bytes; unread = drop (offset + 1) bytes; number = number; is_last = false }
cut_at number bytes None = record { line = bytes; unread = []; number = number; is_last = true }

-- the first line of bytes, which is the last where no LF ends it
abbrev pub next_line : ℕ → List ℕ → ReadLines
next_line number bytes = cut_at number bytes (position is_line_feed bytes)

-- how many lines there are at most after so many reads, each of which gives fewer than 2^64 bytes
abbrev pub most_lines : ℕ → ℕ
most_lines reads = 18446744073709551616 * reads

-- Each read that gave bytes was counted: of so many reads the bytes come, fewer than 2^64 of each.
abbrev pub AreCounted : List ℕ → List ℕ → List ℕ → List ℕ → Type 0
AreCounted bytes later reads counted =
    length later + 18446744073709551615 * length reads ≤ length bytes + 18446744073709551615 * length counted

-- the lines that come after, where these bytes are read later
abbrev pub later_lines : ReadLines → List ℕ → List (List ℕ)
later_lines lines later = if lines.is_last then [] else slice_split is_line_feed (lines.unread ++ later)

-- Some bytes were read, and the next line is the first of those that are there then. It is the last only at the end.
abbrev pub GoesOn : {D : Type 0} → (D → Option (List ℕ)) → Counted D → Counted D → ReadLines → ReadLines → Type 0
GoesOn remaining reader later old new =
    (more : List ℕ) × Reads remaining reader later more × (new ≡ next_line (old.number + 1) (old.unread ++ more))
    × (new.is_last ≡ true → IsAtEnd (remaining (device_of later)))
