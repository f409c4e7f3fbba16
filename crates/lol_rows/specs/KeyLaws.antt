-- Laws of keys: they are right, and a tag's attributes have a key exactly if it is among theirs.
use Rattle.std.proofs.Common.{◌≡◌, ℕ, length, arith, Bool, true, false, cond, not, ◌||◌, ◌&&◌, filter, List, [], ◌∷◌, ◌++◌, map, Option, Some, None, ◌⊎◌, inl, inr, refl, sym, ap, ◌∙◌, subst}
use Rattle.std.specs.Prelude.{⊤, codes, option_to_list, unwrap_or}
use Rattle.std.specs.Option.{option_map}
use Rattle.std.specs.Str.{bytes_eq}
use Rattle.std.specs.List.{list_any, list_all}
use Rattle.std.proofs.lemmas.Slice.Eq.{bytes_eq-Decides}
use Rattle.lol_base.specs.Names.{same_name, lowercased}
use Rattle.lol_base.specs.BoolLaws.{and_parts, not_true, or-false}
use Rattle.lol_base.specs.MemberLaws.{Among, among_any}
use Rattle.lol_base.specs.PlaceLaws.{some_is}
use Rattle.lol_base.specs.StartTags.{Attribute}
use Rattle.lol_base.specs.declared.namespace.Namespace.{Namespace}
use Rattle.lol_base.specs.declared.comparison.AttrSelectorOperator.{AttrSelectorOperator}
use Rattle.lol_base.specs.declared.comparison.AttrSelectorOperator.TheVariants.{Substring}
use Rattle.lol_base.specs.declared.comparison.ParsedCaseSensitivity.{ParsedCaseSensitivity}
use Rattle.lol_base.specs.declared.comparison.ParsedCaseSensitivity.TheVariants.{ExplicitCaseSensitive, AsciiCaseInsensitive, CaseSensitive, AsciiCaseInsensitiveIfInHtmlElementInHtmlDocument}
use Rattle.lol_instructions.specs.Tests.{Element, AnyName, NoName, HasName, IsNthChild, IsNthOfType, AttributeTest, HasId, HasClass, HasAttribute, Compares, attribute_value, find_attribute, words, has_value, needs_operand, is_empty_text, operator_holds, stands_in, compares, compared, ignores_case}
use Rattle.lol_instructions.specs.Compounds.{Test, OfName, OfAttributes, NoneOf, SomeOf, Compound, NoTests, AndTest, holds, all_hold, value_of_bool, both, test_by_names, by_names}
use Rattle.lol_instructions.specs.Attributes.{TagAttributes, tag_attributes, value_in}
use Rattle.lol_instructions.specs.declared.name_value.NameValue.{NameValue}
use Rattle.lol_instructions.specs.declared.name_value.NameValue.TheVariants.{True, False, Open}
use Rattle.lol_instructions.specs.Keys.{AttributeKey, ById, ByClass, ByPart, ByAttribute, part_length, last_part, counts_case, part_or_name, parts_of, KeyTest, IsAny, IsNamed, HasKey, IsOfAttributes, SaysNothing, attribute_key_test, key_test, key_tests, first_of, first_read, read_name, read_id, read_class, read_part, read_attribute, name_key, attribute_key, is_of_attributes, is_of_any, are_of_attributes, without_name, opens_where_named, unless_named, one_key, both_keys, is_another_name, has_key, lacks, AreKeysOf, no_keys, same_key, words_of, keys_seen, is_key_of, HasItsLength}
use Rattle.lol_instructions.specs.ValueParts.{last_stands, part_is_one, parts_stand}
use Rattle.lol_instructions.specs.CompiledKeys.{is_key_there}

-- The keys of a compound are right: one, both, and none.
abbrev pub KeysAreRight : Type 0
KeysAreRight = (c : Compound) → AreKeysOf (one_key c) c × AreKeysOf (both_keys c) c × AreKeysOf no_keys c

-- An element has a key exactly if its tag has it: by its id, its classes, its attributes' names and the parts of their values.
abbrev pub KeysAreOfTags : Type 0
KeysAreOfTags = (key : AttributeKey) (e : Element) → HasItsLength key → has_key key e ≡ is_key_of key e.tag

-- 1. A key that was read comes from a test that must hold

-- what a reader reads is the test's key
abbrev IsReader : (KeyTest → Option AttributeKey) → Type 0
IsReader read = (test : KeyTest) (key : AttributeKey) → read test ≡ Some key → test ≡ HasKey key

id_read : IsReader read_id
id_read (HasKey (ById id)) key h = ap HasKey (some_is h)
id_read (HasKey (ByClass name)) key h = cc
id_read (HasKey (ByPart name part)) key h = cc
id_read (HasKey (ByAttribute name)) key h = cc
id_read IsAny key h = cc
id_read (IsNamed name) key h = cc
id_read IsOfAttributes key h = cc
id_read SaysNothing key h = cc

class_read : IsReader read_class
class_read (HasKey (ById id)) key h = cc
class_read (HasKey (ByClass name)) key h = ap HasKey (some_is h)
class_read (HasKey (ByPart name part)) key h = cc
class_read (HasKey (ByAttribute name)) key h = cc
class_read IsAny key h = cc
class_read (IsNamed name) key h = cc
class_read IsOfAttributes key h = cc
class_read SaysNothing key h = cc

part_read : IsReader read_part
part_read (HasKey (ById id)) key h = cc
part_read (HasKey (ByClass name)) key h = cc
part_read (HasKey (ByPart name part)) key h = ap HasKey (some_is h)
part_read (HasKey (ByAttribute name)) key h = cc
part_read IsAny key h = cc
part_read (IsNamed name) key h = cc
part_read IsOfAttributes key h = cc
part_read SaysNothing key h = cc

attribute_read : IsReader read_attribute
attribute_read (HasKey (ById id)) key h = cc
attribute_read (HasKey (ByClass name)) key h = cc
attribute_read (HasKey (ByPart name part)) key h = cc
attribute_read (HasKey (ByAttribute name)) key h = ap HasKey (some_is h)
attribute_read IsAny key h = cc
attribute_read (IsNamed name) key h = cc
attribute_read IsOfAttributes key h = cc
attribute_read SaysNothing key h = cc

by_first : {K : Type 0} (one other : Option K) (key : K) (P : Type 0) → first_of one other ≡ Some key → (one ≡ Some key → P) → (other ≡ Some key → P) → P
by_first None other key P h first second = second h
by_first (Some k) other key P h first second = first h

first_among : (read : KeyTest → Option AttributeKey) → IsReader read → (tests : List KeyTest) (key : AttributeKey) → first_read read tests ≡ Some key → Among tests (HasKey key)
first_among read reads [] key h = cc
first_among read reads (test ∷ tests) key h = by_first (read test) (first_read read tests) key _ h (λ here. inl (reads test key here)) (λ later. inr (first_among read reads tests key later))

-- The key of some tests is that of one of them.
pub key_of_one : (tests : List KeyTest) (key : AttributeKey) → attribute_key tests ≡ Some key → Among tests (HasKey key)
key_of_one tests key h =
    by_first (first_read read_id tests) _ key _ h (first_among read_id id_read tests key)
    (λ h'. by_first (first_read read_class tests) _ key _ h' (first_among read_class class_read tests key)
    (λ h''. by_first (first_read read_part tests) _ key _ h'' (first_among read_part part_read tests key) (first_among read_attribute attribute_read tests key)))

same_HasKey : {a b : AttributeKey} → HasKey a ≡ HasKey b → a ≡ b
same_HasKey h = cc

-- an attribute that a value is compared with is there
there_if_compared : (o : Option (List ℕ)) (test : List ℕ → Bool) → has_value o test ≡ true → has_value o (λ value. true) ≡ true
there_if_compared None test h = h
there_if_compared (Some value) test h = refl

-- the key of a comparison: none, a name, or a part of the operand
by_comparison : (name : List ℕ) (operator : AttrSelectorOperator) (operand : List ℕ) (case : ParsedCaseSensitivity) (P : KeyTest → Type 0) → P IsOfAttributes → P (HasKey (ByAttribute (lowercased name)))
    → ((part : List ℕ) → counts_case case ≡ true → last_part operand ≡ Some part → P (HasKey (ByPart (lowercased name) part))) → P (attribute_key_test (Compares name operator operand case))
by_comparison name operator operand case P none named parted = by_operand (needs_operand operator && is_empty_text operand)
  where
    by_part : (o : Option (List ℕ)) → last_part operand ≡ o → counts_case case ≡ true → P (HasKey (part_or_name (lowercased name) o))
    by_part None is counts = named
    by_part (Some part) is counts = parted part counts is

    by_case : (b : Bool) → counts_case case ≡ b → P (HasKey (part_or_name (lowercased name) (cond b (last_part operand) None)))
    by_case true counts = by_part (last_part operand) refl counts
    by_case false counts = named

    by_operand : (b : Bool) → P (cond b IsOfAttributes (HasKey (part_or_name (lowercased name) (cond (counts_case case) (last_part operand) None))))
    by_operand true = none
    by_operand false = by_case (counts_case case) refl

has_too : (o : Option (List ℕ)) (f g : List ℕ → Bool) → ((value : List ℕ) → f value ≡ true → g value ≡ true) → has_value o f ≡ true → has_value o g ≡ true
has_too None f g each h = h
has_too (Some value) f g each h = each value h

-- where case counts, what is compared are the bytes
with_case : (case : ParsedCaseSensitivity) (namespace : Namespace) (operator : AttrSelectorOperator) (o : Option (List ℕ)) (operand : List ℕ) → counts_case case ≡ true
    → has_value o (λ value. compares operator (compared (ignores_case case namespace) value) (compared (ignores_case case namespace) operand)) ≡ true
    → has_value o (λ value. compares operator value operand) ≡ true
with_case ExplicitCaseSensitive namespace operator o operand counts h = h
with_case CaseSensitive namespace operator o operand counts h = h
with_case AsciiCaseInsensitive namespace operator o operand counts h = cc
with_case AsciiCaseInsensitiveIfInHtmlElementInHtmlDocument namespace operator o operand counts h = cc

-- a part isn't empty
by_bytes : (value part : List ℕ) → length part ≡ part_length → stands_in value part ≡ true → operator_holds Substring value part ≡ true
by_bytes value [] long stands = absurd (omega (arith, long))
by_bytes value (b ∷ part) long stands = stands

-- the last part of an operand stands in each value that passes the comparison
part_passes : (operator : AttrSelectorOperator) (value operand part : List ℕ) → last_part operand ≡ Some part → compares operator value operand ≡ true → operator_holds Substring value part ≡ true
part_passes operator value operand part last passes = by_bytes value part (last_stands operand part last).1 (parts_stand operator value operand part passes (last_stands operand part last).0)

test_right : (e : Element) (test : Test) (key : AttributeKey) → key_test test ≡ HasKey key → holds test e ≡ true → has_key key e ≡ true
test_right e (OfName AnyName) key is = cc
test_right e (OfName NoName) key is = cc
test_right e (OfName (HasName name)) key is = cc
test_right e (OfName (IsNthChild nth)) key is = cc
test_right e (OfName (IsNthOfType nth)) key is = cc
test_right e (OfAttributes (HasId id)) key is = λ all. subst (λ k. has_key k e ≡ true) (same_HasKey is) all
test_right e (OfAttributes (HasClass name)) key is = λ all. subst (λ k. has_key k e ≡ true) (same_HasKey is) all
test_right e (OfAttributes (HasAttribute name)) key is = λ all. subst (λ k. has_key k e ≡ true) (same_HasKey is) all
test_right e (OfAttributes (Compares name operator operand case)) key is =
    let value = attribute_value (lowercased name) e.tag in
    by_comparison name operator operand case (λ k. k ≡ HasKey key → holds (OfAttributes (Compares name operator operand case)) e ≡ true → has_key key e ≡ true)
    (λ found all. cc)
    (λ found all. subst (λ k. has_key k e ≡ true) (same_HasKey found) (there_if_compared value (λ v. compares operator (compared (ignores_case case e.tag.namespace) v) (compared (ignores_case case e.tag.namespace) operand)) all))
    (λ part counts last found all. subst (λ k. has_key k e ≡ true) (same_HasKey found)
    (has_too value _ _ (λ v passes. part_passes operator v operand part last passes) (with_case case e.tag.namespace operator value operand counts all))) is
test_right e (NoneOf _) key is = cc
test_right e (SomeOf _) key is = cc

key_right : (e : Element) (c : Compound) (key : AttributeKey) → Among (key_tests c) (HasKey key) → all_hold c e ≡ true → has_key key e ≡ true
key_right e NoTests key one all = absurd one
key_right e (AndTest test tests) key (inl is) all = test_right e test key is (and_parts (holds test e) (all_hold tests e) all).0
key_right e (AndTest test tests) key (inr one) all = key_right e tests key one (and_parts (holds test e) (all_hold tests e) all).1

pub lacking_fails : (e : Element) (c : Compound) → lacks (attribute_key (key_tests c)) e ≡ true → all_hold c e ≡ false
lacking_fails e c h = by_key (attribute_key (key_tests c)) refl h
  where
    by_key : (o : Option AttributeKey) → attribute_key (key_tests c) ≡ o → lacks o e ≡ true → all_hold c e ≡ false
    by_key None is lack = cc
    by_key (Some key) is lack = not_true (all_hold c e) (λ all. let has = key_right e c key (key_of_one (key_tests c) key is) all in cc)

-- 2. Another name makes the value by names false

both-right_false : (v : NameValue) → both v False ≡ False
both-right_false True = refl
both-right_false False = refl
both-right_false Open = refl

negated : (b : Bool) → not b ≡ true → b ≡ false
negated true h = sym h
negated false h = refl

name_false : (e : Element) (test : Test) (name : List ℕ) → read_name (key_test test) ≡ Some name → not (bytes_eq (lowercased e.tag.name) name) ≡ true → test_by_names test e ≡ False
name_false e (OfName AnyName) name h = cc
name_false e (OfName NoName) name h = cc
name_false e (OfName (HasName own)) name h = λ other.
    ap value_of_bool (ap (bytes_eq (lowercased e.tag.name)) (some_is h) ∙ negated (bytes_eq (lowercased e.tag.name) name) other)
name_false e (OfName (IsNthChild nth)) name h = cc
name_false e (OfName (IsNthOfType nth)) name h = cc
name_false e (OfAttributes (HasId id)) name h = cc
name_false e (OfAttributes (HasClass class)) name h = cc
name_false e (OfAttributes (HasAttribute attribute)) name h = cc
name_false e (OfAttributes (Compares attribute operator operand case)) name h =
    by_comparison attribute operator operand case (λ k. read_name k ≡ Some name → not (bytes_eq (lowercased e.tag.name) name) ≡ true → test_by_names (OfAttributes (Compares attribute operator operand case)) e ≡ False)
    (λ found other. cc) (λ found other. cc) (λ part counts last found other. cc) h
name_false e (NoneOf _) name h = cc
name_false e (SomeOf _) name h = cc

named_false : (e : Element) (c : Compound) (name : List ℕ) → name_key (key_tests c) ≡ Some name → not (bytes_eq (lowercased e.tag.name) name) ≡ true → by_names c e ≡ False
named_false e NoTests name h other = cc
named_false e (AndTest test tests) name h other = by_first (read_name (key_test test)) refl h (λ found. named_false e tests name found other)
  where
    by_first : (o : Option (List ℕ)) → read_name (key_test test) ≡ o → first_of o (name_key (key_tests tests)) ≡ Some name → (name_key (key_tests tests) ≡ Some name → by_names tests e ≡ False) → by_names (AndTest test tests) e ≡ False
    by_first None is found later = ap (both (test_by_names test e)) (later found) ∙ both-right_false (test_by_names test e)
    by_first (Some k) is found later = ap (λ (v : NameValue). both v (by_names tests e)) (name_false e test name (is ∙ found) other)

pub another_name_is_false : (e : Element) (c : Compound) → is_another_name (name_key (key_tests c)) (lowercased e.tag.name) ≡ true → by_names c e ≡ False
another_name_is_false e c h = by_key (name_key (key_tests c)) refl h
  where
    by_key : (o : Option (List ℕ)) → name_key (key_tests c) ≡ o → is_another_name o (lowercased e.tag.name) ≡ true → by_names c e ≡ False
    by_key None is other = cc
    by_key (Some name) is other = named_false e c name is other

-- 3. What is surely open

-- what is open stays open with what isn't false
open_with : (v : NameValue) → (v ≡ True) ⊎ (v ≡ Open) → both Open v ≡ Open
open_with v (inl h) = ap (both Open) h
open_with v (inr h) = ap (both Open) h

-- the tests but `*`
abbrev but_any : List KeyTest → List KeyTest
but_any tests = filter (λ test. not (is_of_any test)) tests

module _ (e : Element) where
  -- a test of attributes before tests that aren't false
  first_open : (test : AttributeTest) (tests : Compound) → (by_names tests e ≡ True) ⊎ (by_names tests e ≡ Open) → by_names (AndTest (OfAttributes test) tests) e ≡ Open
  first_open test tests h = open_with (by_names tests e) h

  -- the key of a test of attributes is one of attributes
  split_attributes : (test : AttributeTest) (P : KeyTest → Type 0) → ((key : AttributeKey) → P (HasKey key)) → P IsOfAttributes → P (attribute_key_test test)
  split_attributes (HasId id) P keyed other = keyed (ById id)
  split_attributes (HasClass name) P keyed other = keyed (ByClass name)
  split_attributes (HasAttribute name) P keyed other = keyed (ByAttribute name)
  split_attributes (Compares name operator operand case) P keyed other =
      by_comparison name operator operand case P other (keyed (ByAttribute (lowercased name))) (λ part counts last. keyed (ByPart (lowercased name) part))

  -- all are of attributes
  rest_open : (c : Compound) → list_all is_of_attributes (but_any (key_tests c)) ≡ true → (by_names c e ≡ True) ⊎ (by_names c e ≡ Open)
  rest_open NoTests h = inl refl
  rest_open (AndTest (OfName AnyName) tests) h = rest_open tests h
  rest_open (AndTest (OfName NoName) tests) h = cc
  rest_open (AndTest (OfName (HasName name)) tests) h = cc
  rest_open (AndTest (OfName (IsNthChild nth)) tests) h = cc
  rest_open (AndTest (OfName (IsNthOfType nth)) tests) h = cc
  rest_open (AndTest (OfAttributes test) tests) h =
      inr (first_open test tests (rest_open tests (split_attributes test (λ k. list_all is_of_attributes (but_any (k ∷ key_tests tests)) ≡ true → list_all is_of_attributes (but_any (key_tests tests)) ≡ true) (λ key x. x) (λ x. x) h)))
  rest_open (AndTest (NoneOf cs) tests) h = cc
  rest_open (AndTest (SomeOf cs) tests) h = cc

  -- and there is one
  some_open : (c : Compound) → are_of_attributes (but_any (key_tests c)) ≡ true → by_names c e ≡ Open
  some_open NoTests h = cc
  some_open (AndTest (OfName AnyName) tests) h = some_open tests h
  some_open (AndTest (OfName NoName) tests) h = cc
  some_open (AndTest (OfName (HasName name)) tests) h = cc
  some_open (AndTest (OfName (IsNthChild nth)) tests) h = cc
  some_open (AndTest (OfName (IsNthOfType nth)) tests) h = cc
  some_open (AndTest (OfAttributes test) tests) h =
      first_open test tests (rest_open tests (split_attributes test (λ k. are_of_attributes (but_any (k ∷ key_tests tests)) ≡ true → list_all is_of_attributes (but_any (key_tests tests)) ≡ true) (λ key x. x) (λ x. x) h))
  some_open (AndTest (NoneOf cs) tests) h = cc
  some_open (AndTest (SomeOf cs) tests) h = cc

  -- the test of the name is true where it isn't another
  name_true : (b : Bool) → not b ≡ false → b ≡ true
  name_true true h = refl
  name_true false h = sym h

  -- but for the first name all are of attributes
  named_rest_open : (c : Compound) → list_all is_of_attributes (without_name (but_any (key_tests c))) ≡ true → is_another_name (name_key (key_tests c)) (lowercased e.tag.name) ≡ false
      → (by_names c e ≡ True) ⊎ (by_names c e ≡ Open)
  named_rest_open NoTests h named = inl refl
  named_rest_open (AndTest (OfName AnyName) tests) h named = named_rest_open tests h named
  named_rest_open (AndTest (OfName NoName) tests) h named = cc
  named_rest_open (AndTest (OfName (HasName name)) tests) h named =
      subst (λ b. (both (value_of_bool b) (by_names tests e) ≡ True) ⊎ (both (value_of_bool b) (by_names tests e) ≡ Open)) (sym (name_true (same_name e.tag.name name) named)) (rest_open tests h)
  named_rest_open (AndTest (OfName (IsNthChild nth)) tests) h named = cc
  named_rest_open (AndTest (OfName (IsNthOfType nth)) tests) h named = cc
  named_rest_open (AndTest (OfAttributes test) tests) h named =
      inr (first_open test tests (split_attributes test
      (λ k. list_all is_of_attributes (without_name (but_any (k ∷ key_tests tests))) ≡ true → is_another_name (name_key (k ∷ key_tests tests)) (lowercased e.tag.name) ≡ false → (by_names tests e ≡ True) ⊎ (by_names tests e ≡ Open))
      (λ key x y. named_rest_open tests x y) (λ x y. named_rest_open tests x y) h named))
  named_rest_open (AndTest (NoneOf cs) tests) h named = cc
  named_rest_open (AndTest (SomeOf cs) tests) h named = cc

  pub opens_is_open : (c : Compound) → opens_where_named (key_tests c) ≡ true → is_another_name (name_key (key_tests c)) (lowercased e.tag.name) ≡ false → by_names c e ≡ Open
  opens_is_open NoTests h named = cc
  opens_is_open (AndTest (OfName AnyName) tests) h named = opens_is_open tests h named
  opens_is_open (AndTest (OfName NoName) tests) h named = cc
  opens_is_open (AndTest (OfName (HasName name)) tests) h named =
      ap (λ b. both (value_of_bool b) (by_names tests e)) (name_true (same_name e.tag.name name) named) ∙ some_open tests h
  opens_is_open (AndTest (OfName (IsNthChild nth)) tests) h named = cc
  opens_is_open (AndTest (OfName (IsNthOfType nth)) tests) h named = cc
  opens_is_open (AndTest (OfAttributes test) tests) h named =
      first_open test tests (split_attributes test
      (λ k. opens_where_named (k ∷ key_tests tests) ≡ true → is_another_name (name_key (k ∷ key_tests tests)) (lowercased e.tag.name) ≡ false → (by_names tests e ≡ True) ⊎ (by_names tests e ≡ Open))
      (λ key x y. named_rest_open tests x y) (λ x y. named_rest_open tests x y) h named)
  opens_is_open (AndTest (NoneOf cs) tests) h named = cc
  opens_is_open (AndTest (SomeOf cs) tests) h named = cc

-- 4. The choices are right

pub both_keys_are_right : (c : Compound) → AreKeysOf (both_keys c) c
both_keys_are_right c = record {
  by_name = λ e h. another_name_is_false e c h;
  by_attributes = λ e h. lacking_fails e c h;
  opens = λ e h named. opens_is_open e c h named;
}

unless_named_lacks : (name : Option (List ℕ)) (key : Option AttributeKey) (e : Element) → lacks (unless_named name key) e ≡ true → lacks key e ≡ true
unless_named_lacks None key e h = h
unless_named_lacks (Some name) key e h = cc

pub one_key_is_right : (c : Compound) → AreKeysOf (one_key c) c
one_key_is_right c = record {
  by_name = λ e h. another_name_is_false e c h;
  by_attributes = λ e h. lacking_fails e c (unless_named_lacks (name_key (key_tests c)) (attribute_key (key_tests c)) e h);
  opens = λ e h named. opens_is_open e c h named;
}

pub no_keys_are_right : (c : Compound) → AreKeysOf no_keys c
no_keys_are_right c = record { by_name = λ e h. cc; by_attributes = λ e h. cc; opens = λ e h named. cc }

pub keys_are_right : KeysAreRight
keys_are_right c = (one_key_is_right c, both_keys_are_right c, no_keys_are_right c)

-- 5. The keys of a tag

any_append : {T : Type 0} (p : T → Bool) (xs ys : List T) → list_any p (xs ++ ys) ≡ (list_any p xs || list_any p ys)
any_append p [] ys = refl
any_append p (x ∷ xs) ys = by_test (p x) (any_append p xs ys)
  where
    by_test : (b : Bool) → list_any p (xs ++ ys) ≡ (list_any p xs || list_any p ys) → (b || list_any p (xs ++ ys)) ≡ ((b || list_any p xs) || list_any p ys)
    by_test true more = refl
    by_test false more = more

any_map : {A B : Type 0} (p : B → Bool) (f : A → B) (xs : List A) → list_any p (map f xs) ≡ list_any (λ x. p (f x)) xs
any_map p f [] = refl
any_map p f (x ∷ xs) = ap (λ b. p (f x) || b) (any_map p f xs)

any_never : {A : Type 0} (xs : List A) → list_any (λ x. false) xs ≡ false
any_never [] = refl
any_never (x ∷ xs) = any_never xs

value_passes : (o : Option (List ℕ)) (test : List ℕ → Bool) → has_value o test ≡ list_any test (option_to_list o)
value_passes None test = refl
value_passes (Some value) test = sym (or-false (test value))

words_pass : (o : Option (List ℕ)) (test : List ℕ → Bool) → has_value o (λ value. list_any test (words value)) ≡ list_any test (words_of o)
words_pass None test = refl
words_pass (Some value) test = refl

names_pass : (name : List ℕ) (attributes : List Attribute) → has_value (option_map (λ (a : Attribute). unwrap_or a.value []) (find_attribute name attributes)) (λ value. true) ≡ list_any (λ (a : Attribute). bytes_eq (lowercased a.name) name) attributes
names_pass name [] = refl
names_pass name (a ∷ more) = by_test (bytes_eq (lowercased a.name) name) (names_pass name more)
  where
    by_test : (b : Bool) → has_value (option_map (λ (x : Attribute). unwrap_or x.value []) (find_attribute name more)) (λ value. true) ≡ list_any (λ (x : Attribute). bytes_eq (lowercased x.name) name) more
        → has_value (option_map (λ (x : Attribute). unwrap_or x.value []) (cond b (Some a) (find_attribute name more))) (λ value. true) ≡ (b || list_any (λ (x : Attribute). bytes_eq (lowercased x.name) name) more)
    by_test true h = refl
    by_test false h = h

-- of three parts only one is looked at
module _ (ids classes : List (List ℕ)) (attributes : List Attribute) where
  in_parts : (key : AttributeKey) → list_any (same_key key) (map ById ids ++ (map ByClass classes ++ map (λ (a : Attribute). ByAttribute (lowercased a.name)) attributes))
      ≡ (list_any (λ id. same_key key (ById id)) ids || (list_any (λ name. same_key key (ByClass name)) classes || list_any (λ (a : Attribute). same_key key (ByAttribute (lowercased a.name))) attributes))
  in_parts key =
      any_append (same_key key) (map ById ids) (map ByClass classes ++ map (λ (a : Attribute). ByAttribute (lowercased a.name)) attributes)
      ∙ (λ i. any_map (same_key key) ById ids i || (any_append (same_key key) (map ByClass classes) (map (λ (a : Attribute). ByAttribute (lowercased a.name)) attributes)
      ∙ (λ j. any_map (same_key key) ByClass classes j || any_map (same_key key) (λ (a : Attribute). ByAttribute (lowercased a.name)) attributes j)) i)

-- The attributes of a tag have a key exactly if it is among their keys.
-- a key that isn't a part
abbrev pub IsWhole : AttributeKey → Type 0
IsWhole (ById id) = ⊤
IsWhole (ByClass name) = ⊤
IsWhole (ByPart name part) = ⊥
IsWhole (ByAttribute name) = ⊤

pub keys_are_there : (key : AttributeKey) (seen : TagAttributes) → IsWhole key → is_key_there key seen ≡ list_any (same_key key) (keys_seen seen)
keys_are_there (ByPart name part) seen whole = absurd whole
keys_are_there (ById id) seen whole =
    let ids = option_to_list (value_in (codes "id") seen) in
    let classes = words_of (value_in (codes "class") seen) in
    value_passes (value_in (codes "id") seen) (λ value. bytes_eq value id)
    ∙ sym (or-false (list_any (λ value. bytes_eq value id) ids))
    ∙ (λ i. list_any (λ value. bytes_eq value id) ids || (sym (any_never classes) i || sym (any_never seen.attributes) i))
    ∙ sym (in_parts ids classes seen.attributes (ById id))
keys_are_there (ByClass name) seen whole =
    let ids = option_to_list (value_in (codes "id") seen) in
    let classes = words_of (value_in (codes "class") seen) in
    words_pass (value_in (codes "class") seen) (λ word. bytes_eq word name)
    ∙ sym (or-false (list_any (λ word. bytes_eq word name) classes))
    ∙ (λ i. sym (any_never ids) i || (list_any (λ word. bytes_eq word name) classes || sym (any_never seen.attributes) i))
    ∙ sym (in_parts ids classes seen.attributes (ByClass name))
keys_are_there (ByAttribute name) seen whole =
    let ids = option_to_list (value_in (codes "id") seen) in
    let classes = words_of (value_in (codes "class") seen) in
    names_pass name seen.attributes
    ∙ (λ i. sym (any_never ids) i || (sym (any_never classes) i || list_any (λ (a : Attribute). bytes_eq (lowercased a.name) name) seen.attributes))
    ∙ sym (in_parts ids classes seen.attributes (ByAttribute name))

-- a key's test says of an element what its attributes have
test_is_there : (key : AttributeKey) (e : Element) → has_key key e ≡ is_key_there key (tag_attributes e.tag)
test_is_there (ById id) e = refl
test_is_there (ByClass name) e = refl
test_is_there (ByPart name part) e = refl
test_is_there (ByAttribute name) e = refl

-- a part stands in a value exactly if it is one of its parts
part_there : (value part : List ℕ) → length part ≡ part_length → operator_holds Substring value part ≡ list_any (λ other. bytes_eq other part) (parts_of value)
part_there value [] long = absurd (omega (arith, long))
part_there value (b ∷ part) long = part_is_one value (b ∷ part) long

parts_there : (o : Option (List ℕ)) (part : List ℕ) → length part ≡ part_length
    → has_value o (λ value. operator_holds Substring value part) ≡ has_value o (λ value. list_any (λ other. bytes_eq other part) (parts_of value))
parts_there None part long = refl
parts_there (Some value) part long = part_there value part long

pub keys_are_of_tags : KeysAreOfTags
keys_are_of_tags (ById id) e long = test_is_there (ById id) e ∙ keys_are_there (ById id) (tag_attributes e.tag) tt
keys_are_of_tags (ByClass name) e long = test_is_there (ByClass name) e ∙ keys_are_there (ByClass name) (tag_attributes e.tag) tt
keys_are_of_tags (ByPart name part) e long = parts_there (attribute_value name e.tag) part long
keys_are_of_tags (ByAttribute name) e long = test_is_there (ByAttribute name) e ∙ keys_are_there (ByAttribute name) (tag_attributes e.tag) tt

same_is : (a b : AttributeKey) → same_key a b ≡ true → a ≡ b
same_is (ById a) (ById b) h = ap ById (sym ((bytes_eq-Decides b a).0 h))
same_is (ById a) (ByClass b) h = cc
same_is (ById a) (ByAttribute b) h = cc
same_is (ByClass a) (ById b) h = cc
same_is (ByClass a) (ByClass b) h = ap ByClass (sym ((bytes_eq-Decides b a).0 h))
same_is (ByClass a) (ByAttribute b) h = cc
same_is (ById a) (ByPart b p) h = cc
same_is (ByClass a) (ByPart b p) h = cc
same_is (ByAttribute a) (ByPart b p) h = cc
same_is (ByPart a p) (ById b) h = cc
same_is (ByPart a p) (ByClass b) h = cc
same_is (ByPart a p) (ByAttribute b) h = cc
same_is (ByPart a p) (ByPart b q) h =
    let both = and_parts (bytes_eq b a) (bytes_eq q p) h in
    λ i. ByPart (sym ((bytes_eq-Decides b a).0 both.0) i) (sym ((bytes_eq-Decides q p).0 both.1) i)
same_is (ByAttribute a) (ById b) h = cc
same_is (ByAttribute a) (ByClass b) h = cc
same_is (ByAttribute a) (ByAttribute b) h = ap ByAttribute (sym ((bytes_eq-Decides b a).0 h))

-- A key that is there, and that isn't a part, is among those that are seen.
pub key_among : (key : AttributeKey) (seen : TagAttributes) → IsWhole key → is_key_there key seen ≡ true → Among (keys_seen seen) key
key_among key seen whole h =
    let there = among_any (same_key key) (keys_seen seen) (sym (keys_are_there key seen whole) ∙ h) in
    subst (Among (keys_seen seen)) (sym (same_is key there.0 there.2)) there.1
