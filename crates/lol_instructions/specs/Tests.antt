-- The simple tests of an element, and whether it passes them.
use Rattle.std.specs.Prelude.{ℕ, Bool, true, false, not, ◌&&◌, ◌||◌, if◌then◌else◌, ◌==◌, List, [], ◌∷◌, ◌++◌, Option, Some, None, unwrap_or, pos, codes}
use Rattle.std.specs.Option.{option_map}
use Rattle.std.specs.Str.{bytes_eq, byte}
use Rattle.std.specs.List.{list_any, starts_with, ends_with, slice_split}
use Rattle.lol_base.specs.Names.{same_name, lowercased}
use Rattle.lol_base.specs.StartTags.{Attribute, StartTag}
use Rattle.lol_base.specs.declared.namespace.Namespace.{Namespace}
use Rattle.lol_base.specs.declared.namespace.Namespace.TheVariants.{Html, Svg, MathML}
use Rattle.lol_base.specs.CodePoints.{tab, line_feed, form_feed, carriage_return}
use Rattle.lol_base.specs.Progression.{Progression, has_index}
use Rattle.lol_base.specs.declared.comparison.AttrSelectorOperator.{AttrSelectorOperator}
use Rattle.lol_base.specs.declared.comparison.AttrSelectorOperator.TheVariants.{Equal, Includes, DashMatch, Prefix, Substring, Suffix}
use Rattle.lol_base.specs.declared.comparison.ParsedCaseSensitivity.{ParsedCaseSensitivity}
use Rattle.lol_base.specs.declared.comparison.ParsedCaseSensitivity.TheVariants.{ExplicitCaseSensitive, AsciiCaseInsensitive, CaseSensitive, AsciiCaseInsensitiveIfInHtmlElementInHtmlDocument}

-- An element of the document: the number of its start tag's event, that tag, and its position from 1 among its parent's children:
-- among all of them, and among those of its name.
pub record Element : Type 0 where
  pub number : ℕ
  pub tag : StartTag
  pub position : ℕ
  pub typed_position : ℕ

-- 1. Tests

-- Tests that need no attributes (Selectors 4, "Elemental Selectors" and "Tree-Structural pseudo-classes").
pub data NameTest : Type 0 where
  AnyName : NameTest
  NoName : NameTest  -- what a name without a namespace asks for, as `|p`
  HasName : (name : List ℕ) → NameTest
  IsNthChild : (nth : Progression) → NameTest
  IsNthOfType : (nth : Progression) → NameTest

-- Tests of attributes (Selectors 4, "Attribute Selectors", "Class Selectors", "ID Selectors").
pub data AttributeTest : Type 0 where
  HasId : (id : List ℕ) → AttributeTest
  HasClass : (name : List ℕ) → AttributeTest
  HasAttribute : (name : List ℕ) → AttributeTest
  Compares : (name : List ℕ) (operator : AttrSelectorOperator) (operand : List ℕ) (case : ParsedCaseSensitivity) → AttributeTest

-- 2. Truth of a name test

abbrev pub name_holds : NameTest → Element → Bool
name_holds AnyName e = true
name_holds NoName e = false
name_holds (HasName name) e = same_name e.tag.name name
name_holds (IsNthChild nth) e = has_index nth (pos e.position)
name_holds (IsNthOfType nth) e = has_index nth (pos e.typed_position)

-- 3. Truth of an attribute test

abbrev pub find_attribute : List ℕ → List Attribute → Option Attribute
find_attribute name [] = None
find_attribute name (a ∷ more) = if bytes_eq (lowercased a.name) name then Some a else find_attribute name more

-- The value of the first attribute of that name, which is empty where none is written, or nothing where it isn't there
-- (HTML Standard, "Attributes": of two attributes of one name the first counts).
abbrev pub attribute_value : List ℕ → StartTag → Option (List ℕ)
attribute_value name tag = option_map (λ a. unwrap_or a.value []) (find_attribute name tag.attributes)

-- space, line feed, carriage return, tab, form feed (HTML Standard, "ASCII whitespace")
abbrev pub is_white : ℕ → Bool
is_white b = (((b == byte " " || b == line_feed) || b == carriage_return) || b == tab) || b == form_feed

-- the pieces between white space bytes, one more than there are such bytes
abbrev pub words : List ℕ → List (List ℕ)
words value = slice_split is_white value

abbrev pub is_empty_text : List ℕ → Bool
is_empty_text [] = true
is_empty_text (b ∷ bytes) = false

-- whether a part stands somewhere in a list
abbrev pub stands_in : List ℕ → List ℕ → Bool
stands_in [] part = bytes_eq [] part
stands_in (b ∷ bytes) part = starts_with ◌==◌ (b ∷ bytes) part || stands_in bytes part

-- Whether a value stands to an operand as an operator says, byte by byte.
abbrev pub operator_holds : AttrSelectorOperator → List ℕ → List ℕ → Bool
operator_holds Equal value operand = bytes_eq value operand
operator_holds Includes value operand = list_any (λ word. bytes_eq word operand) (words value)
operator_holds DashMatch value operand = bytes_eq value operand || starts_with ◌==◌ value (operand ++ codes "-")
operator_holds Prefix value operand = starts_with ◌==◌ value operand
operator_holds Substring value operand = not (is_empty_text operand) && stands_in value operand
operator_holds Suffix value operand = ends_with ◌==◌ value operand

-- The operators that an empty operand makes false (Selectors 4, "Attribute presence and value selectors" and "Substring matching
-- attribute selectors").
abbrev pub needs_operand : AttrSelectorOperator → Bool
needs_operand Equal = false
needs_operand Includes = true
needs_operand DashMatch = false
needs_operand Prefix = true
needs_operand Substring = true
needs_operand Suffix = true

abbrev pub compares : AttrSelectorOperator → List ℕ → List ℕ → Bool
compares operator value operand = not (needs_operand operator && is_empty_text operand) && operator_holds operator value operand

abbrev pub is_html : Namespace → Bool
is_html Html = true
is_html Svg = false
is_html MathML = false

-- whether case doesn't count, in a namespace
abbrev pub ignores_case : ParsedCaseSensitivity → Namespace → Bool
ignores_case ExplicitCaseSensitive namespace = false
ignores_case AsciiCaseInsensitive namespace = true
ignores_case CaseSensitive namespace = false
ignores_case AsciiCaseInsensitiveIfInHtmlElementInHtmlDocument namespace = is_html namespace

-- what of some bytes is compared
abbrev pub compared : Bool → List ℕ → List ℕ
compared ignoring bytes = if ignoring then lowercased bytes else bytes

abbrev pub has_value : Option (List ℕ) → (List ℕ → Bool) → Bool
has_value None test = false
has_value (Some value) test = test value

abbrev pub attribute_holds : AttributeTest → Element → Bool
attribute_holds (HasId id) e = has_value (attribute_value (codes "id") e.tag) (λ value. bytes_eq value id)
attribute_holds (HasClass name) e = has_value (attribute_value (codes "class") e.tag) (λ value. list_any (λ word. bytes_eq word name) (words value))
attribute_holds (HasAttribute name) e = has_value (attribute_value name e.tag) (λ value. true)
attribute_holds (Compares name operator operand case) e =
    let ignoring = ignores_case case e.tag.namespace in
    has_value (attribute_value (lowercased name) e.tag) (λ value. compares operator (compared ignoring value) (compared ignoring operand))
