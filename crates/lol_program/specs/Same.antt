-- Whether two paths are the same, test for test.
use Rattle.std.specs.Prelude.{Bool, true, false, ◌&&◌}
use Rattle.std.specs.Str.{bytes_eq}
use Rattle.std.specs.Ordering.{int_eq}
use Rattle.lol_base.specs.declared.comparison.AttrSelectorOperator.{AttrSelectorOperator}
use Rattle.lol_base.specs.declared.comparison.AttrSelectorOperator.TheVariants.{Equal, Includes, DashMatch, Prefix, Substring, Suffix}
use Rattle.lol_base.specs.declared.comparison.ParsedCaseSensitivity.{ParsedCaseSensitivity}
use Rattle.lol_base.specs.declared.comparison.ParsedCaseSensitivity.TheVariants.{ExplicitCaseSensitive, AsciiCaseInsensitive, CaseSensitive, AsciiCaseInsensitiveIfInHtmlElementInHtmlDocument}
use Rattle.lol_css.specs.declared.selector.Combinator.{Combinator}
use Rattle.lol_css.specs.declared.selector.Combinator.TheVariants.{Child, Descendant}
use Rattle.lol_base.specs.Progression.{Progression}
use Rattle.lol_instructions.specs.Tests.{NameTest, AnyName, NoName, HasName, IsNthChild, IsNthOfType, AttributeTest, HasId, HasClass, HasAttribute, Compares}
use Rattle.lol_instructions.specs.Compounds.{Test, OfName, OfAttributes, NoneOf, SomeOf, Compound, NoTests, AndTest, Compounds, NoCompounds, OrCompound}
use Rattle.lol_program.specs.Paths.{Path, First, Then}

abbrev pub same_progression : Progression → Progression → Bool
same_progression a b = int_eq a.step b.step && int_eq a.offset b.offset

abbrev pub same_name_test : NameTest → NameTest → Bool
same_name_test AnyName AnyName = true
same_name_test NoName NoName = true
same_name_test (HasName a) (HasName b) = bytes_eq a b
same_name_test (IsNthChild a) (IsNthChild b) = same_progression a b
same_name_test (IsNthOfType a) (IsNthOfType b) = same_progression a b
same_name_test _ _ = false

abbrev pub same_operator : AttrSelectorOperator → AttrSelectorOperator → Bool
same_operator Equal Equal = true
same_operator Includes Includes = true
same_operator DashMatch DashMatch = true
same_operator Prefix Prefix = true
same_operator Substring Substring = true
same_operator Suffix Suffix = true
same_operator _ _ = false

abbrev pub same_case : ParsedCaseSensitivity → ParsedCaseSensitivity → Bool
same_case ExplicitCaseSensitive ExplicitCaseSensitive = true
same_case AsciiCaseInsensitive AsciiCaseInsensitive = true
same_case CaseSensitive CaseSensitive = true
same_case AsciiCaseInsensitiveIfInHtmlElementInHtmlDocument AsciiCaseInsensitiveIfInHtmlElementInHtmlDocument = true
same_case _ _ = false

abbrev pub same_attribute_test : AttributeTest → AttributeTest → Bool
same_attribute_test (HasId a) (HasId b) = bytes_eq a b
same_attribute_test (HasClass a) (HasClass b) = bytes_eq a b
same_attribute_test (HasAttribute a) (HasAttribute b) = bytes_eq a b
same_attribute_test (Compares a operator operand case) (Compares b operator' operand' case') =
    (bytes_eq a b && bytes_eq operand operand') && (same_operator operator operator' && same_case case case')
same_attribute_test _ _ = false

abbrev mutual
  pub same_test : Test → Test → Bool
  same_test (OfName a) (OfName b) = same_name_test a b
  same_test (OfAttributes a) (OfAttributes b) = same_attribute_test a b
  same_test (NoneOf a) (NoneOf b) = same_compounds a b
  same_test (SomeOf a) (SomeOf b) = same_compounds a b
  same_test _ _ = false

  pub same_compound : Compound → Compound → Bool
  same_compound NoTests NoTests = true
  same_compound (AndTest a rest) (AndTest b rest') = same_test a b && same_compound rest rest'
  same_compound _ _ = false

  pub same_compounds : Compounds → Compounds → Bool
  same_compounds NoCompounds NoCompounds = true
  same_compounds (OrCompound a rest) (OrCompound b rest') = same_compound a b && same_compounds rest rest'
  same_compounds _ _ = false

abbrev pub same_step : Combinator → Combinator → Bool
same_step Child Child = true
same_step Descendant Descendant = true
same_step _ _ = false

abbrev pub same_path : Path → Path → Bool
same_path (First a) (First b) = same_compound a b
same_path (Then front step a) (Then front' step' b) = (same_path front front' && same_step step step') && same_compound a b
same_path _ _ = false
