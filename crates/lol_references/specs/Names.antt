-- References by name (13.2.5.73), by the table of 13.5.
use Rattle.std.specs.Prelude.{ℕ, Bool, true, false, ◌+◌, ◌-◌, ◌*◌, ◌==◌, List, [], ◌∷◌, Option, Some, None, take, drop, find, position, slice_index, slice_range, nat_eq, nat_lt, option_and_then, not, ◌&&◌, ◌||◌, if◌then◌else◌}
use Rattle.std.specs.Option.{option_map_or}
use Rattle.std.specs.List.{starts_with, ends_with, slice_split, position_or_len}
use Rattle.std.specs.Char.{is_ascii_alphabetic, is_ascii_alphanumeric}
use Rattle.lol_references.specs.References.{Reference, reference_of}
use Rattle.lol_references.specs.declared.names.TheConstants.{NAMES, PARTS}

-- the rows of the names that begin with two letters
unfoldable pub part : ℕ → ℕ → List ℕ
part first second =
    let place = 58 * (first - 65) + (second - 65) in
    if is_ascii_alphabetic first && is_ascii_alphabetic second then slice_range NAMES.now (slice_index PARTS place) (slice_index PARTS (place + 1)) else []

-- Behind each row is a space. A row is a name, `=`, and its characters.
abbrev pub rows : List ℕ → List (List ℕ)
rows text = slice_split (λ b. b == 32) text

abbrev pub name_len : List ℕ → Option ℕ
name_len row = position (λ b. b == 61) row

abbrev pub begins_with_name : List ℕ → List ℕ → Bool
begins_with_name bytes row = option_map_or (λ len. starts_with nat_eq bytes (take len row)) (name_len row) false

-- the first row with whose name the bytes begin
unfoldable pub row_among : List ℕ → List ℕ → Option (List ℕ)
row_among text bytes = find (begins_with_name bytes) (rows text)

unfoldable pub row_of : List ℕ → Option (List ℕ)
row_of (first ∷ second ∷ bytes) = row_among (part first second) (first ∷ second ∷ bytes)
row_of _ = None

abbrev pub goes_on : ℕ → Bool
goes_on b = b == 61 || is_ascii_alphanumeric b

-- "For historical reasons" a name without a semicolon is no reference before `=`, a letter or a digit.
abbrev pub is_left : List ℕ → List ℕ → ℕ → Bool
is_left bytes row len = not (ends_with nat_eq (take len row) (59 ∷ [])) && goes_on (slice_index bytes len)

abbrev pub named_by : List ℕ → List ℕ → ℕ → Option Reference
named_by bytes row len = if is_left bytes row len then None else Some (reference_of len (drop (len + 1) row))

-- the reference by name that bytes begin with
unfoldable pub named : List ℕ → Option Reference
named bytes = option_and_then (λ row. option_and_then (named_by bytes row) (name_len row)) (row_of bytes)

abbrev pub name_end : List ℕ → ℕ
name_end row = position_or_len (λ b. b == 61) row

-- A name is longer than the one that is read, if one is.
abbrev pub is_longer : Option (List ℕ) → List ℕ → Bool
is_longer read other = option_map_or (λ row. nat_lt (name_end row) (name_end other)) read true
