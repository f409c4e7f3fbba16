-- The keys by which nodes are found: numbers of 64 bits.
use Rattle.std.specs.Prelude.{ℕ, ℤ, ◌+◌, ◌*◌, ◌%◌, ◌^◌, List, [], ◌∷◌, fold}
use Rattle.std.specs.Hash as fed
use Rattle.std.specs.Hash.DefaultHasher as sip
use Rattle.std.specs.declared.hash.DefaultHasher.{DefaultHasher}
use Rattle.lol_base.specs.declared.comparison.AttrSelectorOperator.{AttrSelectorOperator}
use Rattle.lol_base.specs.declared.comparison.AttrSelectorOperator.TheVariants.{Equal, Includes, DashMatch, Prefix, Substring, Suffix}
use Rattle.lol_base.specs.declared.comparison.ParsedCaseSensitivity.{ParsedCaseSensitivity}
use Rattle.lol_base.specs.declared.comparison.ParsedCaseSensitivity.TheVariants.{ExplicitCaseSensitive, AsciiCaseInsensitive, CaseSensitive, AsciiCaseInsensitiveIfInHtmlElementInHtmlDocument}
use Rattle.lol_base.specs.Progression.{Progression}
use Rattle.lol_css.specs.declared.selector.Combinator.{Combinator}
use Rattle.lol_css.specs.declared.selector.Combinator.TheVariants.{Child, Descendant}
use Rattle.lol_instructions.specs.Tests.{NameTest, AnyName, NoName, HasName, IsNthChild, IsNthOfType, AttributeTest, HasId, HasClass, HasAttribute, Compares}
use Rattle.lol_instructions.specs.Compounds.{Test, OfName, OfAttributes, NoneOf, SomeOf, Compound, NoTests, AndTest, Compounds, NoCompounds, OrCompound}

-- 1. What a hasher is given: a byte, a number, and a text with the byte 255 after it, which no text has

abbrev pub byte_hashed : DefaultHasher → ℕ → DefaultHasher
byte_hashed hasher byte = sip.write hasher (byte ∷ [])

abbrev pub number_hashed : DefaultHasher → ℤ → DefaultHasher
number_hashed hasher n = fold sip.write hasher (fed.i32 n)

abbrev pub text_hashed : DefaultHasher → List ℕ → DefaultHasher
text_hashed hasher text = byte_hashed (sip.write hasher text) 255

-- 2. Tests, each with a byte of its kind before it

abbrev pub operator_byte : AttrSelectorOperator → ℕ
operator_byte Equal = 0
operator_byte Includes = 1
operator_byte DashMatch = 2
operator_byte Prefix = 3
operator_byte Substring = 4
operator_byte Suffix = 5

abbrev pub case_byte : ParsedCaseSensitivity → ℕ
case_byte ExplicitCaseSensitive = 0
case_byte AsciiCaseInsensitive = 1
case_byte CaseSensitive = 2
case_byte AsciiCaseInsensitiveIfInHtmlElementInHtmlDocument = 3

abbrev pub progression_hashed : DefaultHasher → Progression → DefaultHasher
progression_hashed hasher nth = number_hashed (number_hashed hasher nth.step) nth.offset

abbrev pub name_test_hashed : DefaultHasher → NameTest → DefaultHasher
name_test_hashed hasher AnyName = byte_hashed hasher 0
name_test_hashed hasher NoName = byte_hashed hasher 1
name_test_hashed hasher (HasName name) = text_hashed (byte_hashed hasher 2) name
name_test_hashed hasher (IsNthChild nth) = progression_hashed (byte_hashed hasher 3) nth
name_test_hashed hasher (IsNthOfType nth) = progression_hashed (byte_hashed hasher 4) nth

abbrev pub attribute_test_hashed : DefaultHasher → AttributeTest → DefaultHasher
attribute_test_hashed hasher (HasId id) = text_hashed (byte_hashed hasher 5) id
attribute_test_hashed hasher (HasClass name) = text_hashed (byte_hashed hasher 6) name
attribute_test_hashed hasher (HasAttribute name) = text_hashed (byte_hashed hasher 7) name
attribute_test_hashed hasher (Compares name operator operand case) =
    let texts = text_hashed (text_hashed (byte_hashed hasher 8) name) operand in
    byte_hashed (byte_hashed texts (operator_byte operator)) (case_byte case)

-- a list of tests or of compounds has the byte 255 after it
abbrev mutual
  pub test_hashed : DefaultHasher → Test → DefaultHasher
  test_hashed hasher (OfName test) = name_test_hashed hasher test
  test_hashed hasher (OfAttributes test) = attribute_test_hashed hasher test
  test_hashed hasher (NoneOf compounds) = compounds_hashed (byte_hashed hasher 9) compounds
  test_hashed hasher (SomeOf compounds) = compounds_hashed (byte_hashed hasher 10) compounds

  pub compound_hashed : DefaultHasher → Compound → DefaultHasher
  compound_hashed hasher NoTests = byte_hashed hasher 255
  compound_hashed hasher (AndTest test tests) = compound_hashed (test_hashed hasher test) tests

  pub compounds_hashed : DefaultHasher → Compounds → DefaultHasher
  compounds_hashed hasher NoCompounds = byte_hashed hasher 255
  compounds_hashed hasher (OrCompound compound compounds) = compounds_hashed (compound_hashed hasher compound) compounds

-- 3. Keys

-- A list is known by a hasher that was given the path to it: this one, of the nodes that stand under no other, was given none.
abbrev pub root_list : DefaultHasher
root_list = sip.initial

-- what CSS writes for a step, which is no salt
abbrev pub step_byte : Combinator → ℕ
step_byte Child = 62
step_byte Descendant = 32

-- the list of the nodes by a step under the node at an index of a list: one word, whose first byte is that of the step
abbrev pub list_under : DefaultHasher → ℕ → Combinator → DefaultHasher
list_under list index step = fold sip.write list (fed.u64 ((index * 256 % 2 ^ 64 + step_byte step) % 2 ^ 64))

-- the node with these tests in a list, with a salt
abbrev pub node_key : DefaultHasher → ℕ → Compound → ℕ
node_key list salt compound = sip.finish (compound_hashed (byte_hashed list salt) compound)
