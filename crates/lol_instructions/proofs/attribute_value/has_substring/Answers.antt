use Rattle.std.proofs.Common.{◌≡◌, ◌∷◌, ◌∙◌, rules}
use Rattle.lol_instructions.proofs.AttributeValues.{substring_found}
use Rattle.lol_instructions.proofs.attribute_value.has_substring.Goals as goal

pub returns-else-value-le-MAX_SPLIT_LEN : goal.returns-else-value-le-MAX_SPLIT_LEN
returns-else-value-le-MAX_SPLIT_LEN c =
    let split = c.in-Some.ensures.cases in
    let operand_is : c.args.operand.now ≡ c.in-Some.first.now ∷ c.in-Some.rest.now = search rules in
    rw c.in-CaseSensitive.is (c.is_some.ensures ∙ substring_found c.args.value.now c.args.operand.now c.in-Some.rest.now c.in-Some.first.now _ operand_is c.find.ensures)
