-- The lines of a script.
use Rattle.std.specs.Prelude.{ℕ, ◌+◌, ◌-◌, ◌*◌, Bool, true, false, ◌&&◌, if◌then◌else◌, ◌==◌, nat_le, List, [], ◌∷◌, map, fold, Option, Some, None, option_map, codes}
use Rattle.std.specs.Str.{bytes_eq, byte, is_utf8}
use Rattle.std.specs.List.{list_all, list_any, slice_split, join_with_byte, before_first, after_first}
use Rattle.lol_base.specs.CodePoints.{tab}
use Rattle.lol_base.specs.StartTags.{Attribute, StartTag}
use Rattle.lol_base.specs.declared.namespace.Namespace.{Namespace}
use Rattle.lol_base.specs.declared.namespace.Namespace.TheVariants.{Html, Svg, MathML}

-- what a line says
pub data Line : Type 0 where
  SetLimit : (maximum : ℕ) → Line
  TurnEsiOn : Line
  ShowTries : Line
  ShowReasons : Line
  MakeRows : (fewest : ℕ) → Line  -- from so many nodes on
  Select : (id : ℕ) (text : List ℕ) → Line
  StartLine : (tag : StartTag) → Line
  EndLine : (name : List ℕ) → Line

abbrev pub is_tab : ℕ → Bool
is_tab b = b == tab

abbrev pub is_digit : ℕ → Bool
is_digit b = nat_le (byte "0") b && nat_le b (byte "9")

abbrev pub some_bytes : List ℕ → Bool
some_bytes [] = false
some_bytes (b ∷ bytes) = true

-- the number that decimal digits spell
abbrev pub number_value : List ℕ → ℕ
number_value digits = fold (λ n digit. 10 * n + (digit - byte "0")) 0 digits

-- the number of one or more decimal digits, up to a greatest one
abbrev pub number_up_to : ℕ → List ℕ → Option ℕ
number_up_to most digits =
    if some_bytes digits && (list_all is_digit digits && nat_le (number_value digits) most) then Some (number_value digits) else None

-- a namespace, and whether the tag closes itself
abbrev pub namespace_at : List ℕ → Option (Namespace × Bool)
namespace_at field =
    if bytes_eq field (codes "html") then Some (Html, false) else (if bytes_eq field (codes "html/") then Some (Html, true)
    else (if bytes_eq field (codes "svg") then Some (Svg, false) else (if bytes_eq field (codes "svg/") then Some (Svg, true)
    else (if bytes_eq field (codes "mathml") then Some (MathML, false) else (if bytes_eq field (codes "mathml/") then Some (MathML, true) else None)))))

abbrev pub is_equals : ℕ → Bool
is_equals b = b == byte "="

-- an attribute, cut at its first `=`
abbrev pub attribute_at : List ℕ → Attribute
attribute_at field =
    record { name = before_first is_equals field; value = if list_any is_equals field then Some (after_first is_equals field) else None }

abbrev pub is_named : Attribute → Bool
is_named attribute = some_bytes attribute.name

-- a start tag by its fields: a namespace, a name, attributes
abbrev pub start_at : Bool → List (List ℕ) → Option Line
start_at finish [] = None
start_at finish (field ∷ []) = None
start_at finish (field ∷ name ∷ more) =
    let attributes = map attribute_at more in
    if some_bytes name && list_all is_named attributes
    then option_map (λ ns. StartLine (record { name = name; namespace = ns.0; attributes = attributes; self_closing = ns.1; finish = finish })) (namespace_at field)
    else None

abbrev pub end_at : List (List ℕ) → Option Line
end_at (name ∷ []) = if some_bytes name then Some (EndLine name) else None
end_at other = None

-- a selector under an id: its text is the rest of the line, with its tabs
abbrev pub select_at : List (List ℕ) → Option Line
select_at (id ∷ text ∷ more) =
    let whole = join_with_byte tab (text ∷ more) in
    if is_utf8 whole then option_map (λ n. Select n whole) (number_up_to 4294967295 id) else None
select_at other = None

abbrev pub limit_at : List (List ℕ) → Option Line
limit_at (field ∷ []) = option_map SetLimit (number_up_to 18446744073709551615 field)
limit_at other = None

-- rows from so many nodes on, or where no number is given from so many as rows pay for
abbrev pub rows_at : List (List ℕ) → Option Line
rows_at [] = Some (MakeRows 256)
rows_at (field ∷ []) = option_map MakeRows (number_up_to 18446744073709551615 field)
rows_at other = None

-- a line without further fields
abbrev pub bare_line : Line → List (List ℕ) → Option Line
bare_line line [] = Some line
bare_line line (field ∷ fields) = None

abbrev pub of_kind : List ℕ → List (List ℕ) → Option Line
of_kind kind fields =
    if bytes_eq kind (codes "limit") then limit_at fields else (if bytes_eq kind (codes "esi") then bare_line TurnEsiOn fields
    else (if bytes_eq kind (codes "tries") then bare_line ShowTries fields else (if bytes_eq kind (codes "explain") then bare_line ShowReasons fields
    else (if bytes_eq kind (codes "rows") then rows_at fields else (if bytes_eq kind (codes "select") then select_at fields
    else (if bytes_eq kind (codes "start") then start_at true fields else (if bytes_eq kind (codes "drop") then start_at false fields
    else (if bytes_eq kind (codes "end") then end_at fields else None))))))))

abbrev pub from_fields : List (List ℕ) → Option Line
from_fields [] = None
from_fields (kind ∷ fields) = of_kind kind fields

-- what a line says by its fields, which tabs part, or nothing where it has none of the forms
abbrev pub line_at : List ℕ → Option Line
line_at bytes = from_fields (slice_split is_tab bytes)
