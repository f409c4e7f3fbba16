-- Keys of compounds: what a tag must have for its element to pass, so that a compound is ruled out without being tried.
use Rattle.std.specs.Prelude.{ℕ, ◌≡◌, ◌-◌, ⊤, Bool, true, false, not, ◌&&◌, if◌then◌else◌, nat_lt, List, [], ◌∷◌, ◌++◌, map, filter, length, take, drop, Option, Some, None, codes, option_to_list}
use Rattle.std.specs.Str.{bytes_eq}
use Rattle.std.specs.List.{list_all, list_any}
use Rattle.lol_base.specs.StartTags.{StartTag}
use Rattle.lol_base.specs.Names.{lowercased}
use Rattle.lol_base.specs.declared.comparison.AttrSelectorOperator.TheVariants.{Substring}
use Rattle.lol_base.specs.declared.comparison.ParsedCaseSensitivity.{ParsedCaseSensitivity}
use Rattle.lol_base.specs.declared.comparison.ParsedCaseSensitivity.TheVariants.{ExplicitCaseSensitive, AsciiCaseInsensitive, CaseSensitive, AsciiCaseInsensitiveIfInHtmlElementInHtmlDocument}
use Rattle.lol_instructions.specs.Tests.{Element, NameTest, AnyName, HasName, AttributeTest, HasId, HasClass, HasAttribute, Compares, attribute_holds, attribute_value, has_value, operator_holds, words, needs_operand, is_empty_text}
use Rattle.lol_instructions.specs.Attributes.{TagAttributes, tag_attributes, value_in}
use Rattle.lol_instructions.specs.Compounds.{Test, OfName, OfAttributes, NoneOf, SomeOf, Compound, NoTests, AndTest, all_hold, by_names}
use Rattle.lol_instructions.specs.declared.name_value.NameValue.TheVariants.{False, Open}

-- 1. Keys

-- an id, a class, a part of the value of an attribute, or the name of an attribute, whatever its value is
pub data AttributeKey : Type 0 where
  ById : (id : List ℕ) → AttributeKey
  ByClass : (name : List ℕ) → AttributeKey
  ByPart : (name part : List ℕ) → AttributeKey
  ByAttribute : (name : List ℕ) → AttributeKey

-- The keys of a compound. The name of each element that passes it, in ASCII lower case, if there is one. An id, a class, a part or an
-- attribute that such an element has, if there is one. Whether its value by names is known to be open at each element of that name.
pub record Keys : Type 0 where
  pub name : Option (List ℕ)
  pub attribute : Option AttributeKey
  pub opens : Bool

-- 2. What a test says of keys. No test inside `:not`, `:is` or `:where` is read.

pub data KeyTest : Type 0 where
  IsAny : KeyTest  -- every name
  IsNamed : (name : List ℕ) → KeyTest
  HasKey : (key : AttributeKey) → KeyTest
  IsOfAttributes : KeyTest  -- of attributes, but no key
  SaysNothing : KeyTest

abbrev pub name_key_test : NameTest → KeyTest
name_key_test AnyName = IsAny
name_key_test (HasName name) = IsNamed (lowercased name)
name_key_test _ = SaysNothing

-- how many bytes a part has
abbrev pub part_length : ℕ
part_length = 4

-- the last bytes of an operand, if it has so many
abbrev pub last_part : List ℕ → Option (List ℕ)
last_part operand = if nat_lt (length operand) part_length then None else Some (drop (length operand - part_length) operand)

-- whether case counts in each namespace
abbrev pub counts_case : ParsedCaseSensitivity → Bool
counts_case ExplicitCaseSensitive = true
counts_case CaseSensitive = true
counts_case AsciiCaseInsensitive = false
counts_case AsciiCaseInsensitiveIfInHtmlElementInHtmlDocument = false

abbrev pub part_or_name : List ℕ → Option (List ℕ) → AttributeKey
part_or_name name None = ByAttribute name
part_or_name name (Some part) = ByPart name part

-- of a comparison with the value of an attribute: a part of its operand, where case counts, or else the attribute's name
abbrev pub comparison_key : List ℕ → List ℕ → ParsedCaseSensitivity → AttributeKey
comparison_key name operand case = part_or_name name (if counts_case case then last_part operand else None)

-- a comparison that its empty operand makes false is no key
abbrev pub attribute_key_test : AttributeTest → KeyTest
attribute_key_test (HasId id) = HasKey (ById id)
attribute_key_test (HasClass name) = HasKey (ByClass name)
attribute_key_test (HasAttribute name) = HasKey (ByAttribute name)
attribute_key_test (Compares name operator operand case) =
    if needs_operand operator && is_empty_text operand then IsOfAttributes else HasKey (comparison_key (lowercased name) operand case)

abbrev pub key_test : Test → KeyTest
key_test (OfName test) = name_key_test test
key_test (OfAttributes test) = attribute_key_test test
key_test (NoneOf _) = SaysNothing
key_test (SomeOf _) = SaysNothing

abbrev pub key_tests : Compound → List KeyTest
key_tests NoTests = []
key_tests (AndTest test tests) = key_test test ∷ key_tests tests

-- 3. The keys of tests

-- the first that is there
abbrev pub first_of : {K : Type 0} → Option K → Option K → Option K
first_of None other = other
first_of (Some key) other = Some key

-- what the first test gives that gives anything
abbrev pub first_read : {K : Type 0} → (KeyTest → Option K) → List KeyTest → Option K
first_read read [] = None
first_read read (test ∷ tests) = first_of (read test) (first_read read tests)

abbrev pub read_name : KeyTest → Option (List ℕ)
read_name (IsNamed name) = Some name
read_name _ = None

abbrev pub read_id : KeyTest → Option AttributeKey
read_id (HasKey (ById id)) = Some (ById id)
read_id _ = None

abbrev pub read_class : KeyTest → Option AttributeKey
read_class (HasKey (ByClass name)) = Some (ByClass name)
read_class _ = None

abbrev pub read_part : KeyTest → Option AttributeKey
read_part (HasKey (ByPart name part)) = Some (ByPart name part)
read_part _ = None

abbrev pub read_attribute : KeyTest → Option AttributeKey
read_attribute (HasKey (ByAttribute name)) = Some (ByAttribute name)
read_attribute _ = None

abbrev pub name_key : List KeyTest → Option (List ℕ)
name_key tests = first_read read_name tests

-- an id, else a class, else a part of an attribute's value, else an attribute's name
abbrev pub attribute_key : List KeyTest → Option AttributeKey
attribute_key tests =
    first_of (first_read read_id tests) (first_of (first_read read_class tests) (first_of (first_read read_part tests) (first_read read_attribute tests)))

abbrev pub is_of_attributes : KeyTest → Bool
is_of_attributes (HasKey key) = true
is_of_attributes IsOfAttributes = true
is_of_attributes _ = false

abbrev pub is_of_any : KeyTest → Bool
is_of_any IsAny = true
is_of_any _ = false

-- the tests but the first of a name
abbrev pub without_name : List KeyTest → List KeyTest
without_name [] = []
without_name (IsNamed name ∷ tests) = tests
without_name (test ∷ tests) = test ∷ without_name tests

-- whether there are tests, and all are of attributes
abbrev pub are_of_attributes : List KeyTest → Bool
are_of_attributes [] = false
are_of_attributes (test ∷ tests) = is_of_attributes test && list_all is_of_attributes tests

-- Whether the value by names is open at every element of the name: but for the test of the name, and `*`, there are tests, and all are of
-- attributes.
abbrev pub opens_where_named : List KeyTest → Bool
opens_where_named tests = are_of_attributes (without_name (filter (λ test. not (is_of_any test)) tests))

-- Both: a name, and an id, a class, a part or an attribute's name.
abbrev pub keys_of_tests : List KeyTest → Keys
keys_of_tests tests = record { name = name_key tests; attribute = attribute_key tests; opens = opens_where_named tests }

-- 4. The keys of a compound

abbrev pub both_keys : Compound → Keys
both_keys c = keys_of_tests (key_tests c)

-- the attribute's key where there is no name
abbrev pub unless_named : Option (List ℕ) → Option AttributeKey → Option AttributeKey
unless_named None key = key
unless_named (Some name) key = None

-- One key: a name, else an id, else a class, else a part, else an attribute's name, else none.
abbrev pub one_key : Compound → Keys
one_key c = record (both_keys c) { attribute = unless_named (both_keys c).name (both_keys c).attribute }

-- No keys: nothing is ruled out.
abbrev pub no_keys : Keys
no_keys = record { name = None; attribute = None; opens = false }

-- 5. What is ruled out

-- whether a name in lower case is another than the key's
abbrev pub is_another_name : Option (List ℕ) → List ℕ → Bool
is_another_name None name = false
is_another_name (Some key) name = not (bytes_eq name key)

abbrev pub has_key : AttributeKey → Element → Bool
has_key (ById id) e = attribute_holds (HasId id) e
has_key (ByClass name) e = attribute_holds (HasClass name) e
has_key (ByPart name part) e = has_value (attribute_value name e.tag) (λ value. operator_holds Substring value part)
has_key (ByAttribute name) e = attribute_holds (HasAttribute name) e

abbrev pub lacks : Option AttributeKey → Element → Bool
lacks None e = false
lacks (Some key) e = not (has_key key e)

-- The tag has another name.
abbrev pub is_ruled_out_by_name : Keys → Element → Bool
is_ruled_out_by_name keys e = is_another_name keys.name (lowercased e.tag.name)

-- The tag lacks the id, the class, the part or the attribute.
abbrev pub is_ruled_out_by_attributes : Keys → Element → Bool
is_ruled_out_by_attributes keys e = lacks keys.attribute e

-- Keys are right for a compound: where the name rules it out, its value by names is false; where the attributes do, it doesn't hold; and
-- where it is known to be open, it is.
pub record AreKeysOf (keys : Keys) (c : Compound) : Type 0 where
  pub by_name : (e : Element) → is_ruled_out_by_name keys e ≡ true → by_names c e ≡ False
  pub by_attributes : (e : Element) → is_ruled_out_by_attributes keys e ≡ true → all_hold c e ≡ false
  pub opens : (e : Element) → keys.opens ≡ true → is_ruled_out_by_name keys e ≡ false → by_names c e ≡ Open

-- 6. The keys that a tag has, each at most as often as it is written

abbrev pub same_key : AttributeKey → AttributeKey → Bool
same_key (ById a) (ById b) = bytes_eq b a
same_key (ByClass a) (ByClass b) = bytes_eq b a
same_key (ByPart a part) (ByPart b other) = bytes_eq b a && bytes_eq other part
same_key (ByAttribute a) (ByAttribute b) = bytes_eq b a
same_key _ _ = false

abbrev pub words_of : Option (List ℕ) → List (List ℕ)
words_of None = []
words_of (Some value) = words value

-- the parts of a value, from each of its bytes on
abbrev pub parts_of : List ℕ → List (List ℕ)
parts_of [] = []
parts_of (b ∷ bytes) = if nat_lt (length (b ∷ bytes)) part_length then [] else take part_length (b ∷ bytes) ∷ parts_of bytes

-- The id, the classes, and the names of the attributes in lower case.
abbrev pub keys_seen : TagAttributes → List AttributeKey
keys_seen seen =
    map ById (option_to_list (value_in (codes "id") seen))
    ++ (map ByClass (words_of (value_in (codes "class") seen)) ++ map (λ a. ByAttribute (lowercased a.name)) seen.attributes)

abbrev pub keys_of_tag : StartTag → List AttributeKey
keys_of_tag tag = keys_seen (tag_attributes tag)

-- Whether a tag has a key: one of these, or a part of the value of an attribute.
abbrev pub is_key_of : AttributeKey → StartTag → Bool
is_key_of (ById id) tag = list_any (same_key (ById id)) (keys_of_tag tag)
is_key_of (ByClass name) tag = list_any (same_key (ByClass name)) (keys_of_tag tag)
is_key_of (ByPart name part) tag = has_value (attribute_value name tag) (λ value. list_any (λ other. bytes_eq other part) (parts_of value))
is_key_of (ByAttribute name) tag = list_any (same_key (ByAttribute name)) (keys_of_tag tag)

-- a part has its length
abbrev pub HasItsLength : AttributeKey → Type 0
HasItsLength (ByPart name part) = length part ≡ part_length
HasItsLength (ById id) = ⊤
HasItsLength (ByClass name) = ⊤
HasItsLength (ByAttribute name) = ⊤
