-- JSON strings (RFC 8259, 7).
use Rattle.std.specs.Prelude.{ℕ, ◌/◌, ◌%◌, ◌==◌, nat_lt, false, if◌then◌else◌, List, [], ◌∷◌, ◌++◌, codes}
use Rattle.std.specs.Fmt.{digit_glyph}
use Rattle.std.specs.List.{flat_map}
use Rattle.std.specs.Str.{byte}
use Rattle.std.specs.Str.Lossy.{utf8_lossy}

-- a byte of a string: quotes, backslashes and control characters are escaped
abbrev pub json_byte : ℕ → List ℕ
json_byte b =
    if b == byte "\"" then codes "\\\""
    else (if b == byte "\\" then codes "\\\\"
    else (if nat_lt b 32 then codes "\\u00" ++ digit_glyph false (b / 16) ∷ digit_glyph false (b % 16) ∷ [] else b ∷ []))

-- the string of some bytes, with U+FFFD for those that are no text
abbrev pub json_string : List ℕ → List ℕ
json_string text = codes "\"" ++ (flat_map json_byte (utf8_lossy text) ++ codes "\"")

-- a member of an object
abbrev pub json_member : List ℕ → List ℕ → List ℕ
json_member name value = codes "\"" ++ (name ++ (codes "\":" ++ value))
