use Rattle.std.proofs.Common.{◌∙◌, arith}
use Rattle.std.proofs.lemmas.Grind.{common_steps}
use Rattle.lol_instructions.proofs.AttributeValues.{suffix_holds}
use Rattle.lol_instructions.proofs.attribute_value.has_suffix.Goals as goal

pub returns-then-value-operand : goal.returns-then-value-operand
returns-then-value-operand c = c.is_equal.ensures ∙ suffix_holds c.args.case c.args.value.now c.args.operand.now _ (grind (arith, common_steps))
