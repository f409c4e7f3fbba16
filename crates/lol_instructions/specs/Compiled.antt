-- What compiled tests say of an element: its value by names, and whether it passes.
use Rattle.std.specs.Prelude.{ℕ, Bool, true, false, not, ◌&&◌, ◌||◌, if◌then◌else◌, List, [], ◌∷◌, Option, Some, None, codes, pos}
use Rattle.std.specs.Option.{option_copied}
use Rattle.std.specs.Str.{bytes_eq}
use Rattle.std.specs.List.{list_all}
use Rattle.lol_base.specs.Names.{lowercased}
use Rattle.lol_base.specs.LocalNames as names
use Rattle.lol_base.specs.Progression.{Progression, has_index}
use Rattle.lol_base.specs.declared.comparison.AttrSelectorOperator.TheVariants as operators
use Rattle.lol_instructions.specs.Tests.{Element, has_value, operator_holds}
use Rattle.lol_instructions.specs.Compounds.{value_of_bool, both, either, opposite}
use Rattle.lol_instructions.specs.Attributes.{TagAttributes, value_in, operands_hold}
use Rattle.lol_instructions.specs.declared.name_value.NameValue.{NameValue}
use Rattle.lol_instructions.specs.declared.name_value.NameValue.TheVariants as values
use Rattle.lol_instructions.specs.declared.selector_state.SelectorState.{SelectorState}
use Rattle.lol_instructions.specs.declared.compiled_expr.LocalNameExprTest.{LocalNameExprTest}
use Rattle.lol_instructions.specs.declared.compiled_expr.LocalNameExprTest.TheVariants.{Any, Never, LocalName, NthChild, NthOfType}
use Rattle.lol_instructions.specs.declared.compiled_expr.AttributeExprTest.{AttributeExprTest}
use Rattle.lol_instructions.specs.declared.compiled_expr.AttributeExprTest.TheVariants as attributes
use Rattle.lol_instructions.specs.declared.compiled_predicate.CompiledTest.{CompiledTest, Name, Attribute, NoneOf', SomeOf', Row_of-CompiledPredicate, end_of-CompiledPredicate, more_of-CompiledPredicate}
use Rattle.lol_instructions.specs.declared.compiled_predicate.CompiledPredicate.{CompiledPredicate, Row_of-CompiledTest, end_of-CompiledTest, more_of-CompiledTest}

-- 1. What is seen

-- What compiled tests see of an element beside its attributes: its name in ASCII lower case, its position from 1 among its parent's children
-- and, where children are counted by type, that among those of its name.
pub record Sight : Type 0 where
  pub name : List ℕ
  pub position : ℕ
  pub typed_position : Option ℕ

-- what is seen of an element, where children are counted by type or aren't
abbrev pub sight_of : Bool → Element → Sight
sight_of by_type e =
    record { name = lowercased e.tag.name; position = e.position; typed_position = if by_type then Some e.typed_position else None }

-- what counters and a name show
abbrev pub sight : SelectorState → names.Name → Sight
sight state name = record { name = name.lowercased; position = state.cumulative.now; typed_position = option_copied state.typed }

-- 2. Simple tests

-- whether a position is there and is the An+Bth one
abbrev pub is_at : Progression → Option ℕ → Bool
is_at nth None = false
is_at nth (Some position) = has_index nth (pos position)

-- Whether a test of a name or a position passes; without a count by type none passes by type.
abbrev pub name_expr_holds : LocalNameExprTest → Sight → Bool
name_expr_holds Any s = true
name_expr_holds Never s = false
name_expr_holds (LocalName name) s = bytes_eq s.name name.lowercased
name_expr_holds (NthChild nth) s = has_index nth (pos s.position)
name_expr_holds (NthOfType nth) s = is_at nth s.typed_position

-- Whether a test of attributes passes.
abbrev pub attribute_expr_holds : AttributeExprTest → TagAttributes → Bool
attribute_expr_holds attributes.Never seen = false
attribute_expr_holds (attributes.Id id) seen = has_value (value_in (codes "id") seen) (λ value. bytes_eq value id.items)
attribute_expr_holds (attributes.Class name) seen = has_value (value_in (codes "class") seen) (λ value. operator_holds operators.Includes value name.items)
attribute_expr_holds (attributes.Exists name) seen = has_value (value_in name.items seen) (λ value. true)
attribute_expr_holds (attributes.Equal operands) seen = operands_hold operators.Equal operands seen
attribute_expr_holds (attributes.Includes operands) seen = operands_hold operators.Includes operands seen
attribute_expr_holds (attributes.DashMatch operands) seen = operands_hold operators.DashMatch operands seen
attribute_expr_holds (attributes.Prefix operands) seen = operands_hold operators.Prefix operands seen
attribute_expr_holds (attributes.Suffix operands) seen = operands_hold operators.Suffix operands seen
attribute_expr_holds (attributes.Substring operands) seen = operands_hold operators.Substring operands seen

-- 3. Trees of tests, of any depth

-- the value of a row of tests, all of which have to pass, and of a row of compounds, some of which have to
abbrev pub all_values : {A : Type 0} → (A → NameValue) → List A → NameValue
all_values value [] = values.True
all_values value (x ∷ xs) = both (value x) (all_values value xs)

abbrev pub some_values : {A : Type 0} → (A → NameValue) → List A → NameValue
some_values value [] = values.False
some_values value (x ∷ xs) = either (value x) (some_values value xs)

abbrev mutual
  -- the value by names of a test
  pub test_value : CompiledTest → Sight → NameValue
  test_value (Name expr) s = value_of_bool (name_expr_holds expr.test s)
  test_value (Attribute expr) s = values.Open
  test_value (NoneOf' shape row) s = opposite (row_some_value row s)
  test_value (SomeOf' shape row) s = row_some_value row s

  pub row_value : {m : _} → Row_of-CompiledTest m → Sight → NameValue
  row_value end_of-CompiledTest s = values.True
  row_value (more_of-CompiledTest test rest) s = both (test_value test s) (row_value rest s)

  pub row_some_value : {m : _} → Row_of-CompiledPredicate m → Sight → NameValue
  row_some_value end_of-CompiledPredicate s = values.False
  row_some_value (more_of-CompiledPredicate shape tests rest) s = either (row_value tests s) (row_some_value rest s)

abbrev mutual
  -- whether an element passes a test
  pub test_holds : CompiledTest → Sight → TagAttributes → Bool
  test_holds (Name expr) s a = name_expr_holds expr.test s
  test_holds (Attribute expr) s a = attribute_expr_holds expr.test a
  test_holds (NoneOf' shape row) s a = not (row_some_hold row s a)
  test_holds (SomeOf' shape row) s a = row_some_hold row s a

  pub row_holds : {m : _} → Row_of-CompiledTest m → Sight → TagAttributes → Bool
  row_holds end_of-CompiledTest s a = true
  row_holds (more_of-CompiledTest test rest) s a = test_holds test s a && row_holds rest s a

  pub row_some_hold : {m : _} → Row_of-CompiledPredicate m → Sight → TagAttributes → Bool
  row_some_hold end_of-CompiledPredicate s a = false
  row_some_hold (more_of-CompiledPredicate shape tests rest) s a = row_holds tests s a || row_some_hold rest s a

-- the tests of a predicate
abbrev pub tests_in : CompiledPredicate → List CompiledTest
tests_in predicate = predicate.tests.items

-- The value by names of a predicate: of all its tests.
abbrev pub predicate_value : CompiledPredicate → Sight → NameValue
predicate_value predicate s = all_values (λ test. test_value test s) (tests_in predicate)

-- Whether an element passes all tests of a predicate.
abbrev pub predicate_holds : CompiledPredicate → Sight → TagAttributes → Bool
predicate_holds predicate s a = list_all (λ test. test_holds test s a) (tests_in predicate)
