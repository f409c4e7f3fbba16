use Rattle.std.proofs.Common.{◌≡◌, ◌∷◌, length}
use Rattle.lol_instructions.specs.Tests.{stands_in}
use Rattle.lol_instructions.proofs.attribute_value.stands_in.Given as goal

-- the operand stands in what is left if it stands in the value
abbrev pub invariant-loop-byte : goal.invariant-loop-byte
invariant-loop-byte l = stands_in l.left (l.first ∷ l.rest) ≡ stands_in l.value (l.first ∷ l.rest)

abbrev pub decreases-loop-byte : goal.decreases-loop-byte
decreases-loop-byte l = length l.left
