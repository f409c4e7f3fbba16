use Rattle.lol_instructions.proofs.AttributeValues.{SoFar}
use Rattle.lol_instructions.proofs.attribute_value.has_word_split.Given as goal

-- no word before the one that is being read is the operand
abbrev pub invariant-loop-end : goal.invariant-loop-end
invariant-loop-end l = SoFar l.case l.value l.operand l.start l.end
