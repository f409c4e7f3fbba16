-- What a matcher's tests say of an element: the tests of its tag.
use Rattle.std.specs.Prelude.{◌≡◌, ℕ, Bool, true, false, not, ◌&&◌, List, [], ◌∷◌, Option, Some, None}
use Rattle.std.proofs.Common.{refl, sym, ap, ◌∙◌}
use Rattle.lol_base.specs.Names.{lowercased}
use Rattle.lol_base.specs.declared.comparison.AttrSelectorOperator.{AttrSelectorOperator}
use Rattle.lol_base.specs.declared.comparison.ParsedCaseSensitivity.{ParsedCaseSensitivity}
use Rattle.lol_instructions.specs.Tests.{Element, Compares, attribute_holds, has_value, operator_holds, compared, needs_operand, is_empty_text, ignores_case, attribute_value}
use Rattle.lol_instructions.specs.Attributes.{TagAttributes, tag_attributes, operands_hold}
use Rattle.lol_instructions.specs.declared.attribute_matcher.AttrExprOperands.{AttrExprOperands}

is_empty-compared : (ignoring : Bool) (bytes : List ℕ) → is_empty_text (compared ignoring bytes) ≡ is_empty_text bytes
is_empty-compared true [] = refl
is_empty-compared true (b ∷ bytes) = refl
is_empty-compared false bytes = refl

lacks-compared : (operator : AttrSelectorOperator) (ignoring : Bool) (operand : List ℕ) → (needs_operand operator && is_empty_text (compared ignoring operand)) ≡ (needs_operand operator && is_empty_text operand)
lacks-compared operator ignoring operand = ap (λ (empty : Bool). needs_operand operator && empty) (is_empty-compared ignoring operand)

has_value-false : (value : Option (List ℕ)) → has_value value (λ v. false) ≡ false
has_value-false None = refl
has_value-false (Some v) = refl

module _ (seen : TagAttributes) (e : Element) (same : seen ≡ tag_attributes e.tag) where
  pub holds-Compares : (name operand : List ℕ) (operator : AttrSelectorOperator) (case : ParsedCaseSensitivity) (operands : AttrExprOperands)
      → operands.name.items ≡ lowercased name → operands.value.items ≡ operand → operands.case_sensitivity ≡ case → (needs_operand operator && is_empty_text operand) ≡ false
      → operands_hold operator operands seen ≡ attribute_holds (Compares name operator operand case) e
  holds-Compares name operand operator case operands names values cases enough =
      let ignoring = ignores_case case e.tag.namespace in
      let test = λ (value : List ℕ). operator_holds operator (compared ignoring value) (compared ignoring operand) in
      ap (λ (s : TagAttributes). operands_hold operator operands s) same
      ∙ ap (λ (c : ParsedCaseSensitivity). has_value (attribute_value operands.name.items e.tag) (λ value. operator_holds operator (compared (ignores_case c e.tag.namespace) value) (compared (ignores_case c e.tag.namespace) operands.value.items))) cases
      ∙ ap (λ (bytes : List ℕ). has_value (attribute_value operands.name.items e.tag) (λ value. operator_holds operator (compared ignoring value) (compared ignoring bytes))) values
      ∙ ap (λ (bytes : List ℕ). has_value (attribute_value bytes e.tag) test) names
      ∙ sym (ap (λ (lacks : Bool). has_value (attribute_value (lowercased name) e.tag) (λ value. not lacks && test value)) (lacks-compared operator ignoring operand ∙ enough))

-- An operator that needs an operand and has an empty one holds nowhere.
pub never-Compares : (name operand : List ℕ) (operator : AttrSelectorOperator) (case : ParsedCaseSensitivity) (e : Element) → (needs_operand operator && is_empty_text operand) ≡ true
    → attribute_holds (Compares name operator operand case) e ≡ false
never-Compares name operand operator case e lacks =
    let ignoring = ignores_case case e.tag.namespace in
    ap (λ (b : Bool). has_value (attribute_value (lowercased name) e.tag) (λ value. not b && operator_holds operator (compared ignoring value) (compared ignoring operand))) (lacks-compared operator ignoring operand ∙ lacks)
    ∙ has_value-false (attribute_value (lowercased name) e.tag)
