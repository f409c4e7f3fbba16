-- How a `LocalName` keeps its name.
use Rattle.std.specs.Prelude.{◌≡◌, ℕ, zero, suc, ◌+◌, ◌-◌, ◌/◌, ◌%◌, ◌==◌, nat_lt, if◌then◌else◌, List, [], ◌∷◌, Some, None}
use Rattle.std.specs.Str.{byte}
use Rattle.lol_base.specs.Names.{lowercased}
use Rattle.lol_base.specs.LocalNames.{Name, name_code}
use Rattle.lol_base.specs.declared.local_name.Kept.{Kept}
use Rattle.lol_base.specs.declared.local_name.Kept.TheVariants.{Hash, Borrowed, Owned}

-- the byte that has these five bits
abbrev pub byte_of : ℕ → ℕ
byte_of bits = if nat_lt bits 6 then byte "1" + bits else byte "a" + (bits - 6)

-- the last n bytes that a code has at most, in front of others
abbrev pub bytes_before : ℕ → ℕ → List ℕ → List ℕ
bytes_before zero code others = others
bytes_before (suc n) code others = if code == 0 then others else bytes_before n (code / 32) (byte_of (code % 32) ∷ others)

-- the name that has this code
unfoldable pub name_of_code : ℕ → List ℕ
name_of_code code = bytes_before 12 code []

abbrev pub spelled_name : List ℕ → Name
spelled_name bytes = record { lowercased = lowercased bytes; spelling = Some bytes }

-- the name that is kept, and its code
abbrev pub name_of : ℕ → Kept → Name
name_of code Hash = record { lowercased = name_of_code code; spelling = None }
name_of code (Borrowed bytes) = spelled_name bytes.now
name_of code (Owned bytes) = spelled_name bytes.items

-- these bytes are no hash, and have the code that stands for none
abbrev pub IsSpelled : ℕ → List ℕ → Type 0
IsSpelled code bytes = (code ≡ 18446744073709551615) × (name_code (lowercased bytes) ≡ None)

-- a code is that of its name, and what is spelled is no hash
abbrev pub IsKeptRight : ℕ → Kept → Type 0
IsKeptRight code Hash = name_code (name_of_code code) ≡ Some code
IsKeptRight code (Borrowed bytes) = IsSpelled code bytes.now
IsKeptRight code (Owned bytes) = IsSpelled code bytes.items
