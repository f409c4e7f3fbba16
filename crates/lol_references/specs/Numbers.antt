-- References by number (13.2.5.75 to 13.2.5.80).
use Rattle.std.specs.Prelude.{ℕ, Bool, ◌==◌, ◌+◌, ◌-◌, nat_lt, nat_le, ◌&&◌, ◌||◌, List, Option, Some, None, take, drop, slice_index, encode_utf8, if◌then◌else◌}
use Rattle.std.specs.List.{prefix_len}
use Rattle.std.specs.Char.{is_digit}
use Rattle.std.specs.Str.Parse.{digits_value}
use Rattle.lol_references.specs.References.{Reference, reference_of}
use Rattle.lol_references.specs.declared.numeric.TheConstants.{WINDOWS_1252}

abbrev pub is_surrogate : ℕ → Bool
is_surrogate n = nat_le 0xD800 n && nat_le n 0xDFFF

-- the character that a number stands for (13.2.5.80)
unfoldable pub character : ℕ → ℕ
character n =
    if n == 0 || nat_lt 0x10FFFF n || is_surrogate n then 0xFFFD else
    if nat_le 0x80 n && nat_le n 0x9F then slice_index WINDOWS_1252 (n - 0x80) else n

abbrev pub digit_count : ℕ → List ℕ → ℕ
digit_count base bytes = prefix_len (λ b. is_digit b base) bytes

-- the semicolon that may end a number
abbrev pub semicolon_len : ℕ → ℕ
semicolon_len b = if b == 59 then 1 else 0

-- the digits of a base behind a mark, which is `#` or `#x`
unfoldable pub by_digits : ℕ → ℕ → List ℕ → Option Reference
by_digits base mark_len bytes =
    let len = digit_count base bytes in
    if len == 0 then None else
    Some (reference_of (mark_len + (len + semicolon_len (slice_index bytes len))) (encode_utf8 (character (digits_value base (take len bytes)))))

-- the reference by number that bytes behind `#` begin with
abbrev pub numeric : List ℕ → Option Reference
numeric bytes =
    let mark = slice_index bytes 0 in
    if mark == 120 || mark == 88 then by_digits 16 2 (drop 1 bytes) else by_digits 10 1 bytes
