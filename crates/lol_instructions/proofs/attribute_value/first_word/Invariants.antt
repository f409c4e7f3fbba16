use Rattle.lol_instructions.proofs.AttributeValues.{NoWhite}
use Rattle.lol_instructions.proofs.attribute_value.first_word.Given as goal

-- no byte so far is white space
abbrev pub invariant-loop-at : goal.invariant-loop-at
invariant-loop-at l = NoWhite l.value 0 l.at
