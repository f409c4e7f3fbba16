-- The keys of compiled tests.
use Rattle.std.specs.Prelude.{Bool, true, false, not, map, Option, Some, None, codes}
use Rattle.std.specs.Str.{bytes_eq}
use Rattle.lol_base.specs.declared.comparison.AttrSelectorOperator.TheVariants.{Includes, Substring}
use Rattle.lol_instructions.specs.Tests.{has_value, operator_holds}
use Rattle.lol_instructions.specs.Attributes.{TagAttributes, value_in}
use Rattle.lol_instructions.specs.Compiled.{tests_in}
use Rattle.lol_instructions.specs.Keys.{AttributeKey, ById, ByClass, ByPart, ByAttribute, comparison_key, Keys, KeyTest, IsAny, IsNamed, HasKey, IsOfAttributes, SaysNothing, keys_of_tests}
use Rattle.lol_instructions.specs.declared.attribute_matcher.AttrExprOperands.{AttrExprOperands}
use Rattle.lol_instructions.specs.declared.compiled_expr.LocalNameExprTest.{LocalNameExprTest}
use Rattle.lol_instructions.specs.declared.compiled_expr.LocalNameExprTest.TheVariants.{Any, LocalName}
use Rattle.lol_instructions.specs.declared.compiled_expr.AttributeExprTest.{AttributeExprTest}
use Rattle.lol_instructions.specs.declared.compiled_expr.AttributeExprTest.TheVariants as attributes
use Rattle.lol_instructions.specs.declared.compiled_predicate.CompiledTest.{CompiledTest, Name, Attribute, NoneOf', SomeOf'}
use Rattle.lol_instructions.specs.declared.compiled_predicate.CompiledPredicate.{CompiledPredicate}
use Rattle.lol_instructions.specs.declared.keys.KeyBytes.{KeyBytes}
use Rattle.lol_instructions.specs.declared.keys.KeyBytes.TheVariants as bytes

-- 1. What a compiled test says of keys

abbrev pub name_expr_key_test : LocalNameExprTest → KeyTest
name_expr_key_test Any = IsAny
name_expr_key_test (LocalName name) = IsNamed name.lowercased
name_expr_key_test _ = SaysNothing

abbrev pub operands_key : AttrExprOperands → AttributeKey
operands_key operands = comparison_key operands.name.items operands.value.items operands.case_sensitivity

abbrev pub attribute_expr_key_test : AttributeExprTest → KeyTest
attribute_expr_key_test attributes.Never = IsOfAttributes
attribute_expr_key_test (attributes.Id id) = HasKey (ById id.items)
attribute_expr_key_test (attributes.Class name) = HasKey (ByClass name.items)
attribute_expr_key_test (attributes.Exists name) = HasKey (ByAttribute name.items)
attribute_expr_key_test (attributes.Equal operands) = HasKey (operands_key operands)
attribute_expr_key_test (attributes.Includes operands) = HasKey (operands_key operands)
attribute_expr_key_test (attributes.DashMatch operands) = HasKey (operands_key operands)
attribute_expr_key_test (attributes.Prefix operands) = HasKey (operands_key operands)
attribute_expr_key_test (attributes.Suffix operands) = HasKey (operands_key operands)
attribute_expr_key_test (attributes.Substring operands) = HasKey (operands_key operands)

abbrev pub compiled_key_test : CompiledTest → KeyTest
compiled_key_test (Name expr) = name_expr_key_test expr.test
compiled_key_test (Attribute expr) = attribute_expr_key_test expr.test
compiled_key_test (NoneOf' shape row) = SaysNothing
compiled_key_test (SomeOf' shape row) = SaysNothing

-- 2. The keys of a predicate: a name, and an id, a class, a part or an attribute's name

abbrev pub keys_in : CompiledPredicate → Keys
keys_in predicate = keys_of_tests (map compiled_key_test (tests_in predicate))

-- a key in the code
abbrev pub key_shown : KeyBytes → AttributeKey
key_shown (bytes.Id id) = ById id.now
key_shown (bytes.Class name) = ByClass name.now
key_shown (bytes.Part name part) = ByPart name.now part.now
key_shown (bytes.Attribute name) = ByAttribute name.now

-- 3. Whether the attributes of a tag lack a key

abbrev pub is_key_there : AttributeKey → TagAttributes → Bool
is_key_there (ById id) seen = has_value (value_in (codes "id") seen) (λ value. bytes_eq value id)
is_key_there (ByClass name) seen = has_value (value_in (codes "class") seen) (λ value. operator_holds Includes value name)
is_key_there (ByPart name part) seen = has_value (value_in name seen) (λ value. operator_holds Substring value part)
is_key_there (ByAttribute name) seen = has_value (value_in name seen) (λ value. true)

abbrev pub lacks_key : Option AttributeKey → TagAttributes → Bool
lacks_key None seen = false
lacks_key (Some key) seen = not (is_key_there key seen)
