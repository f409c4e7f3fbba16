use Rattle.std.proofs.Common.{◌-◌, length}
use Rattle.lol_instructions.proofs.WordOffsets.{IsSearched}
use Rattle.lol_instructions.proofs.attribute_value.has_word_by_last.Given as goal

-- no word that ends up to here is the operand
abbrev pub invariant-loop-end : goal.invariant-loop-end
invariant-loop-end l = IsSearched l.case l.value l.operand l.from

abbrev pub decreases-loop-end : goal.decreases-loop-end
decreases-loop-end l = length l.value - l.from
