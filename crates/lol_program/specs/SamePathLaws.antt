-- The test on paths decides whether they are equal.
use Rattle.lol_base.specs.BoolLaws.{and_parts, and_of}
use Rattle.std.proofs.Common.{◌≡◌, ℕ, Bool, true, false, List, refl, sym, ap, ◌∙◌}
use Rattle.std.specs.Bool.{Decides}
use Rattle.std.specs.Str.{bytes_eq}
use Rattle.std.proofs.lemmas.Bool.Decides.{Decides-int_eq}
use Rattle.std.proofs.lemmas.Slice.Eq.{bytes_eq-Decides}
use Rattle.lol_base.specs.declared.comparison.AttrSelectorOperator.{AttrSelectorOperator}
use Rattle.lol_base.specs.declared.comparison.AttrSelectorOperator.TheVariants.{Equal, Includes, DashMatch, Prefix, Substring, Suffix}
use Rattle.lol_base.specs.declared.comparison.ParsedCaseSensitivity.{ParsedCaseSensitivity}
use Rattle.lol_base.specs.declared.comparison.ParsedCaseSensitivity.TheVariants.{ExplicitCaseSensitive, AsciiCaseInsensitive, CaseSensitive, AsciiCaseInsensitiveIfInHtmlElementInHtmlDocument}
use Rattle.lol_css.specs.declared.selector.Combinator.{Combinator}
use Rattle.lol_css.specs.declared.selector.Combinator.TheVariants.{Child, Descendant}
use Rattle.lol_base.specs.Progression.{Progression}
use Rattle.lol_instructions.specs.Tests.{NameTest, AnyName, NoName, HasName, IsNthChild, IsNthOfType, AttributeTest, HasId, HasClass, HasAttribute, Compares}
use Rattle.lol_instructions.specs.Compounds.{Test, OfName, OfAttributes, NoneOf, SomeOf, Compound, NoTests, AndTest, Compounds, NoCompounds, OrCompound}
use Rattle.lol_program.specs.Paths.{Path, First, Then}
use Rattle.lol_program.specs.Same.{same_progression, same_name_test, same_operator, same_case, same_attribute_test, same_test, same_compound, same_compounds, same_step, same_path}

no : {A : Type 0} → false ≡ true → A
no h = cc

-- 1. What is the same is equal

agrees_bytes : (a b : List ℕ) → bytes_eq a b ≡ true → a ≡ b
agrees_bytes a b h = (bytes_eq-Decides a b).0 h

agrees_progression : (a b : Progression) → same_progression a b ≡ true → a ≡ b
agrees_progression a b h =
    let h2 = and_parts _ _ h in
    λ i. record { step = (Decides-int_eq a.step b.step).0 h2.0 i; offset = (Decides-int_eq a.offset b.offset).0 h2.1 i }

agrees_name_test : (a b : NameTest) → same_name_test a b ≡ true → a ≡ b
agrees_name_test AnyName AnyName h = refl
agrees_name_test NoName NoName h = refl
agrees_name_test (HasName a) (HasName b) h = ap HasName (agrees_bytes a b h)
agrees_name_test (IsNthChild a) (IsNthChild b) h = ap IsNthChild (agrees_progression a b h)
agrees_name_test (IsNthOfType a) (IsNthOfType b) h = ap IsNthOfType (agrees_progression a b h)
agrees_name_test _ _ h = no h

agrees_operator : (a b : AttrSelectorOperator) → same_operator a b ≡ true → a ≡ b
agrees_operator Equal Equal h = refl
agrees_operator Includes Includes h = refl
agrees_operator DashMatch DashMatch h = refl
agrees_operator Prefix Prefix h = refl
agrees_operator Substring Substring h = refl
agrees_operator Suffix Suffix h = refl
agrees_operator _ _ h = no h

agrees_case : (a b : ParsedCaseSensitivity) → same_case a b ≡ true → a ≡ b
agrees_case ExplicitCaseSensitive ExplicitCaseSensitive h = refl
agrees_case AsciiCaseInsensitive AsciiCaseInsensitive h = refl
agrees_case CaseSensitive CaseSensitive h = refl
agrees_case AsciiCaseInsensitiveIfInHtmlElementInHtmlDocument AsciiCaseInsensitiveIfInHtmlElementInHtmlDocument h = refl
agrees_case _ _ h = no h

agrees_attribute_test : (a b : AttributeTest) → same_attribute_test a b ≡ true → a ≡ b
agrees_attribute_test (HasId a) (HasId b) h = ap HasId (agrees_bytes a b h)
agrees_attribute_test (HasClass a) (HasClass b) h = ap HasClass (agrees_bytes a b h)
agrees_attribute_test (HasAttribute a) (HasAttribute b) h = ap HasAttribute (agrees_bytes a b h)
agrees_attribute_test (Compares a operator operand case) (Compares b operator' operand' case') h =
    let h2 = and_parts _ _ h in
    let texts = and_parts _ _ h2.0 in
    let kinds = and_parts _ _ h2.1 in
    λ i. Compares (agrees_bytes a b texts.0 i) (agrees_operator operator operator' kinds.0 i) (agrees_bytes operand operand' texts.1 i) (agrees_case case case' kinds.1 i)
agrees_attribute_test _ _ h = no h

agrees_step : (a b : Combinator) → same_step a b ≡ true → a ≡ b
agrees_step Child Child h = refl
agrees_step Descendant Descendant h = refl
agrees_step _ _ h = no h

-- 2. What is equal is the same

itself_name_test : (a : NameTest) → same_name_test a a ≡ true
itself_name_test AnyName = refl
itself_name_test NoName = refl
itself_name_test (HasName a) = (bytes_eq-Decides a a).1 refl
itself_name_test (IsNthChild a) = and_of _ _ ((Decides-int_eq a.step a.step).1 refl) ((Decides-int_eq a.offset a.offset).1 refl)
itself_name_test (IsNthOfType a) = and_of _ _ ((Decides-int_eq a.step a.step).1 refl) ((Decides-int_eq a.offset a.offset).1 refl)

itself_operator : (a : AttrSelectorOperator) → same_operator a a ≡ true
itself_operator Equal = refl
itself_operator Includes = refl
itself_operator DashMatch = refl
itself_operator Prefix = refl
itself_operator Substring = refl
itself_operator Suffix = refl

itself_case : (a : ParsedCaseSensitivity) → same_case a a ≡ true
itself_case ExplicitCaseSensitive = refl
itself_case AsciiCaseInsensitive = refl
itself_case CaseSensitive = refl
itself_case AsciiCaseInsensitiveIfInHtmlElementInHtmlDocument = refl

itself_attribute_test : (a : AttributeTest) → same_attribute_test a a ≡ true
itself_attribute_test (HasId a) = (bytes_eq-Decides a a).1 refl
itself_attribute_test (HasClass a) = (bytes_eq-Decides a a).1 refl
itself_attribute_test (HasAttribute a) = (bytes_eq-Decides a a).1 refl
itself_attribute_test (Compares a operator operand case) =
    and_of _ _ (and_of _ _ ((bytes_eq-Decides a a).1 refl) ((bytes_eq-Decides operand operand).1 refl)) (and_of _ _ (itself_operator operator) (itself_case case))

itself_step : (a : Combinator) → same_step a a ≡ true
itself_step Child = refl
itself_step Descendant = refl

-- 3. So they decide

decides : {T : Type 0} (same : T → T → Bool) → ((a b : T) → same a b ≡ true → a ≡ b) → ((a : T) → same a a ≡ true) → (a b : T) → Decides (same a b) (a ≡ b)
decides same agrees itself a b = (agrees a b, λ is. ap (same a) (sym is) ∙ itself a)

mutual
  agrees_test : (a b : Test) → same_test a b ≡ true → a ≡ b
  agrees_test (OfName a) (OfName b) h = ap OfName (agrees_name_test a b h)
  agrees_test (OfAttributes a) (OfAttributes b) h = ap OfAttributes (agrees_attribute_test a b h)
  agrees_test (NoneOf a) (NoneOf b) h = ap NoneOf (agrees_compounds a b h)
  agrees_test (SomeOf a) (SomeOf b) h = ap SomeOf (agrees_compounds a b h)
  agrees_test _ _ h = no h

  agrees_compound : (a b : Compound) → same_compound a b ≡ true → a ≡ b
  agrees_compound NoTests NoTests h = refl
  agrees_compound (AndTest a rest) (AndTest b rest') h =
      let h2 = and_parts _ _ h in
      λ i. AndTest (agrees_test a b h2.0 i) (agrees_compound rest rest' h2.1 i)
  agrees_compound _ _ h = no h

  agrees_compounds : (a b : Compounds) → same_compounds a b ≡ true → a ≡ b
  agrees_compounds NoCompounds NoCompounds h = refl
  agrees_compounds (OrCompound a rest) (OrCompound b rest') h =
      let h2 = and_parts _ _ h in
      λ i. OrCompound (agrees_compound a b h2.0 i) (agrees_compounds rest rest' h2.1 i)
  agrees_compounds _ _ h = no h

mutual
  itself_test : (a : Test) → same_test a a ≡ true
  itself_test (OfName a) = itself_name_test a
  itself_test (OfAttributes a) = itself_attribute_test a
  itself_test (NoneOf a) = itself_compounds a
  itself_test (SomeOf a) = itself_compounds a

  itself_compound : (a : Compound) → same_compound a a ≡ true
  itself_compound NoTests = refl
  itself_compound (AndTest a rest) = and_of _ _ (itself_test a) (itself_compound rest)

  itself_compounds : (a : Compounds) → same_compounds a a ≡ true
  itself_compounds NoCompounds = refl
  itself_compounds (OrCompound a rest) = and_of _ _ (itself_compound a) (itself_compounds rest)

pub decides_compound : (a b : Compound) → Decides (same_compound a b) (a ≡ b)
decides_compound = decides same_compound agrees_compound itself_compound

agrees_path : (a b : Path) → same_path a b ≡ true → a ≡ b
agrees_path (First a) (First b) h = ap First ((decides_compound a b).0 h)
agrees_path (Then front step a) (Then front' step' b) h =
    let h2 = and_parts _ _ h in
    let h3 = and_parts _ _ h2.0 in
    λ i. Then (agrees_path front front' h3.0 i) (agrees_step step step' h3.1 i) ((decides_compound a b).0 h2.1 i)
agrees_path _ _ h = no h

itself_path : (a : Path) → same_path a a ≡ true
itself_path (First a) = (decides_compound a a).1 refl
itself_path (Then front step a) = and_of _ _ (and_of _ _ (itself_path front) (itself_step step)) ((decides_compound a a).1 refl)

-- Two paths are the same exactly if they are equal.
pub same_path-Decides : (a b : Path) → Decides (same_path a b) (a ≡ b)
same_path-Decides = decides same_path agrees_path itself_path
