-- What a matcher is told of a start tag, and what its tests say of it.
use Rattle.std.specs.Prelude.{ℕ, Bool, true, false, List, [], Option, unwrap_or}
use Rattle.std.specs.Option.{option_map}
use Rattle.lol_base.specs.StartTags.{Attribute, StartTag}
use Rattle.lol_base.specs.declared.namespace.Namespace.{Namespace}
use Rattle.lol_base.specs.declared.comparison.AttrSelectorOperator.{AttrSelectorOperator}
use Rattle.lol_base.specs.declared.comparison.CaseSensitivity.{CaseSensitivity}
use Rattle.lol_base.specs.declared.comparison.CaseSensitivity.TheVariants.{CaseSensitive, AsciiCaseInsensitive}
use Rattle.lol_instructions.specs.Tests.{find_attribute, operator_holds, ignores_case, compared, has_value}
use Rattle.lol_instructions.specs.declared.attribute_matcher.AttrExprOperands.{AttrExprOperands}

-- The attributes of a start tag, in order, and its namespace.
pub record TagAttributes : Type 0 where
  pub attributes : List Attribute
  pub namespace : Namespace

abbrev pub tag_attributes : StartTag → TagAttributes
tag_attributes tag = record { attributes = tag.attributes; namespace = tag.namespace }

-- The value of the first attribute of that name among some.
abbrev pub value_among : List ℕ → List Attribute → Option (List ℕ)
value_among name attributes = option_map (λ a. unwrap_or a.value []) (find_attribute name attributes)

-- The same among the attributes of a tag: `attribute_value` of each tag that has these.
abbrev pub value_in : List ℕ → TagAttributes → Option (List ℕ)
value_in name seen = value_among name seen.attributes

abbrev pub ignores : CaseSensitivity → Bool
ignores CaseSensitive = false
ignores AsciiCaseInsensitive = true

-- Whether a value stands to an operand as an operator says, with or without ASCII case.
abbrev pub value_holds : AttrSelectorOperator → CaseSensitivity → List ℕ → List ℕ → Bool
value_holds operator case value operand = operator_holds operator (compared (ignores case) value) (compared (ignores case) operand)

-- Whether the first attribute of the operands' name is there, and its value stands to their value as an operator says, by their case rule.
abbrev pub operands_hold : AttrSelectorOperator → AttrExprOperands → TagAttributes → Bool
operands_hold operator operands seen =
    let ignoring = ignores_case operands.case_sensitivity seen.namespace in
    has_value (value_in operands.name.items seen) (λ value. operator_holds operator (compared ignoring value) (compared ignoring operands.value.items))
