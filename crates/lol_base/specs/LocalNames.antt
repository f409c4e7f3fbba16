-- Names of elements, as contracts see a `LocalName`.
use Rattle.std.specs.Prelude.{ℕ, Bool, false, ◌&&◌, ◌||◌, not, nat_lt, nat_le, ◌==◌, ◌+◌, ◌-◌, ◌*◌, if◌then◌else◌, List, [], ◌∷◌, length, fold, Option, Some, None, unwrap_or}
use Rattle.std.specs.List.{list_all}
use Rattle.std.specs.Str.{bytes_eq, byte}
use Rattle.std.specs.Hash as fed
use Rattle.std.specs.Hash.{HashWrites}
use Rattle.std.specs.declared.cmp.Ordering.{Ordering}
use Rattle.std.specs.Ordering.{nat_cmp, on, then_cmp}
use Rattle.std.specs.Cmp.Lexicographic.{slice_cmp}
use Rattle.lol_base.specs.Names.{lowercased as in_lower_case}

-- A name: its bytes in lower case and, where it isn't a hash, its bytes as they are spelled.
pub record Name : Type 0 where
  pub lowercased : List ℕ
  pub spelling : Option (List ℕ)

-- whether a byte of a name in lower case is a letter, or a digit from 1 to 6
abbrev pub is_hash_byte : ℕ → Bool
is_hash_byte b = (nat_le (byte "1") b && nat_le b (byte "6")) || (nat_le (byte "a") b && nat_le b (byte "z"))

-- A name in lower case is a hash if it has 1 to 12 bytes, all of them letters or digits from 1 to 6, and doesn't begin with 1.
abbrev pub is_hash : List ℕ → Bool
is_hash [] = false
is_hash (b ∷ bs) = not (b == byte "1") && nat_lt (length bs) 12 && list_all is_hash_byte (b ∷ bs)

-- the five bits of such a byte: 0 to 5 for the digits 1 to 6, 6 to 31 for the letters a to z
abbrev pub five_bits : ℕ → ℕ
five_bits b = if nat_lt b (byte "a") then b - byte "1" else b - byte "a" + 6

-- those bits, if it is such a byte
abbrev pub bits_of : ℕ → Option ℕ
bits_of b = if is_hash_byte b then Some (five_bits b) else None

-- a code with the five bits of one more byte after it
abbrev pub with_byte : ℕ → ℕ → ℕ
with_byte code b = 32 * code + five_bits b

-- The code of a name in lower case, where it is a hash: the five bits of its bytes, those of the first byte highest.
unfoldable pub name_code : List ℕ → Option ℕ
name_code name = if is_hash name then Some (fold with_byte 0 name) else None

-- the name that these bytes spell
abbrev pub local_name : List ℕ → Name
local_name bytes =
    let name = in_lower_case bytes in
    record { lowercased = name; spelling = if is_hash name then None else Some bytes }

-- whether two names are the same: their bytes in lower case are
abbrev pub same_local_name : Name → Name → Bool
same_local_name a b = bytes_eq a.lowercased b.lowercased

-- the code of a hash, and 2^64 - 1 for any other name, which no hash has
abbrev pub code_or_last : Name → ℕ
code_or_last n = unwrap_or (name_code n.lowercased) 18446744073709551615

-- The order of names: the hashes by their codes, and after them the others by their bytes in lower case.
abbrev pub local_name_cmp : Name → Name → Ordering
local_name_cmp = then_cmp (on code_or_last nat_cmp) (on (λ n. n.lowercased) (slice_cmp nat_cmp))

-- what a name in lower case feeds a hasher: its code, or its bytes where it has none
abbrev pub writes_of : Option ℕ → List ℕ → HashWrites
writes_of (Some code) name = fed.u64 code
writes_of None name = fed.slice fed.u8 name

abbrev pub name_writes : Name → HashWrites
name_writes n = writes_of (name_code n.lowercased) n.lowercased
