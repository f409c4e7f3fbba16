-- What the code's tests stand for.
use Rattle.std.specs.Prelude.{map, string_bytes}
use Rattle.lol_instructions.specs.Tests.{NameTest, AnyName, NoName, HasName, IsNthChild, IsNthOfType, AttributeTest, HasId, HasClass, HasAttribute, Compares}
use Rattle.lol_instructions.specs.Compounds.{Compound, NoTests, AndTest, Compounds, NoCompounds, OrCompound, all_of, any_of}
use Rattle.lol_instructions.specs.Compounds as compounds
use Rattle.lol_program.specs.declared.condition.OnTagNameExpr.{OnTagNameExpr}
use Rattle.lol_program.specs.declared.condition.OnTagNameExpr.TheVariants.{ExplicitAny, Unmatchable, LocalName, NthChild, NthOfType}
use Rattle.lol_program.specs.declared.condition.OnAttributesExpr.{OnAttributesExpr}
use Rattle.lol_program.specs.declared.condition.OnAttributesExpr.TheVariants.{Id, Class, AttributeExists, AttributeComparisonExpr}
use Rattle.lol_program.specs.declared.condition.Condition.{Condition}
use Rattle.lol_program.specs.declared.condition.Condition.TheVariants.{OnTagName, OnAttributes}
use Rattle.lol_program.specs.declared.predicate.Test.{Test, Name, Attribute, NoneOf', SomeOf', Row_of-Predicate, end_of-Predicate, more_of-Predicate}
use Rattle.lol_program.specs.declared.predicate.Predicate.{Predicate, Row_of-Test, end_of-Test, more_of-Test}

abbrev pub name_test : OnTagNameExpr → NameTest
name_test ExplicitAny = AnyName
name_test Unmatchable = NoName
name_test (LocalName name) = HasName (string_bytes name)
name_test (NthChild nth) = IsNthChild nth
name_test (NthOfType nth) = IsNthOfType nth

abbrev pub attribute_test : OnAttributesExpr → AttributeTest
attribute_test (Id id) = HasId (string_bytes id)
attribute_test (Class name) = HasClass (string_bytes name)
attribute_test (AttributeExists name) = HasAttribute (string_bytes name)
attribute_test (AttributeComparisonExpr e) = Compares (string_bytes e.name) e.operator (string_bytes e.value) e.case_sensitivity

abbrev pub condition_test : Condition → compounds.Test
condition_test (OnTagName test) = compounds.OfName (name_test test)
condition_test (OnAttributes test) = compounds.OfAttributes (attribute_test test)

abbrev mutual
  pub test_shown : Test → compounds.Test
  test_shown (Name test) = compounds.OfName (name_test test)
  test_shown (Attribute test) = compounds.OfAttributes (attribute_test test)
  test_shown (NoneOf' shape row) = compounds.NoneOf (row_compounds row)
  test_shown (SomeOf' shape row) = compounds.SomeOf (row_compounds row)

  pub row_tests : {m : _} → Row_of-Test m → Compound
  row_tests end_of-Test = NoTests
  row_tests (more_of-Test test rest) = AndTest (test_shown test) (row_tests rest)

  pub row_compounds : {m : _} → Row_of-Predicate m → Compounds
  row_compounds end_of-Predicate = NoCompounds
  row_compounds (more_of-Predicate shape tests rest) = OrCompound (row_tests tests) (row_compounds rest)

-- The tests of a predicate.
abbrev pub tests_of : Predicate → Compound
tests_of predicate = all_of (map test_shown predicate.tests.items)
