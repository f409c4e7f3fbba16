use Rattle.std.proofs.Common.{◌∙◌, arith, eq-eqb}
use Rattle.std.proofs.lemmas.Bool.{ne_eqb}
use Rattle.std.proofs.lemmas.Grind.{common_steps}
use Rattle.lol_instructions.proofs.AttributeValues.{dash_found, dash_missed}
use Rattle.lol_instructions.proofs.attribute_value.has_dash_match.Goals as goal

pub returns-then-value-operand-eq45 : goal.returns-then-value-operand-eq45
returns-then-value-operand-eq45 c =
    c.is_equal-then-value-operand-eq45.ensures
    ∙ dash_found c.args.case c.args.value.now c.args.operand.now _ (omega arith) (grind (arith, common_steps)) (eq-eqb _ _ c.if-value-operand-eq45.true)

pub returns-else-value-operand-eq45 : goal.returns-else-value-operand-eq45
returns-else-value-operand-eq45 c = dash_missed c.args.case c.args.value.now c.args.operand.now (omega arith) (ne_eqb _ _ c.if-value-operand-eq45.false)
