-- When compiled tests stand for tests: at every element they have its value by names and hold exactly where it does. What is counted by
-- type has to be counted where a test by type is among them.
use Rattle.std.specs.Prelude.{◌≡◌, Bool, true, List}
use Rattle.std.specs.List.{list_any, list_all}
use Rattle.lol_instructions.specs.Tests.{Element, NameTest, AttributeTest, name_holds, attribute_holds}
use Rattle.lol_instructions.specs.Compounds.{Test, Compound, Compounds, holds, all_hold, some_hold, test_by_names, by_names, some_by_names, is_by_type, test_has_type, has_test_by_type, some_has_type}
use Rattle.lol_instructions.specs.Attributes.{tag_attributes}
use Rattle.lol_instructions.specs.Compiled.{sight_of, name_expr_holds, attribute_expr_holds, test_value, test_holds, predicate_value, predicate_holds, all_values, some_values}
use Rattle.lol_instructions.specs.declared.compiled_expr.LocalNameExprTest.{LocalNameExprTest}
use Rattle.lol_instructions.specs.declared.compiled_expr.AttributeExprTest.{AttributeExprTest}
use Rattle.lol_instructions.specs.declared.compiled_predicate.CompiledTest.{CompiledTest}
use Rattle.lol_instructions.specs.declared.compiled_predicate.CompiledPredicate.{CompiledPredicate}

-- children are counted by type where that is needed
abbrev pub Serves : Bool → Bool → Type 0
Serves by_type needed = needed ≡ true → by_type ≡ true

abbrev pub IsCompiledName : LocalNameExprTest → NameTest → Type 0
IsCompiledName compiled test = (by_type : Bool) → Serves by_type (is_by_type test) → (e : Element) → name_expr_holds compiled (sight_of by_type e) ≡ name_holds test e

abbrev pub IsCompiledAttribute : AttributeExprTest → AttributeTest → Type 0
IsCompiledAttribute compiled test = (e : Element) → attribute_expr_holds compiled (tag_attributes e.tag) ≡ attribute_holds test e

-- A compiled test stands for a test.
abbrev pub IsCompiledTest : CompiledTest → Test → Type 0
IsCompiledTest compiled test =
    (by_type : Bool) → Serves by_type (test_has_type test) → (e : Element)
    → (test_value compiled (sight_of by_type e) ≡ test_by_names test e) × (test_holds compiled (sight_of by_type e) (tag_attributes e.tag) ≡ holds test e)

-- Compiled tests stand for a compound, and compiled predicates for some compounds.
abbrev pub AreCompiledTests : List CompiledTest → Compound → Type 0
AreCompiledTests compiled compound =
    (by_type : Bool) → Serves by_type (has_test_by_type compound) → (e : Element)
    → (all_values (λ test. test_value test (sight_of by_type e)) compiled ≡ by_names compound e)
    × (list_all (λ test. test_holds test (sight_of by_type e) (tag_attributes e.tag)) compiled ≡ all_hold compound e)

abbrev pub AreCompiledPredicates : List CompiledPredicate → Compounds → Type 0
AreCompiledPredicates compiled compounds =
    (by_type : Bool) → Serves by_type (some_has_type compounds) → (e : Element)
    → (some_values (λ predicate. predicate_value predicate (sight_of by_type e)) compiled ≡ some_by_names compounds e)
    × (list_any (λ predicate. predicate_holds predicate (sight_of by_type e) (tag_attributes e.tag)) compiled ≡ some_hold compounds e)
