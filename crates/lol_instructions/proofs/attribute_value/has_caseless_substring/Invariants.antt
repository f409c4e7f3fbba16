use Rattle.std.proofs.Common.{◌≡◌, ◌∷◌, length}
use Rattle.lol_instructions.specs.Substrings.{stands_in_caseless}
use Rattle.lol_instructions.proofs.attribute_value.has_caseless_substring.Given as goal

-- the operand stands in what is left if it stands in the value
abbrev pub invariant-loop-after : goal.invariant-loop-after
invariant-loop-after l = stands_in_caseless l.left (l.first ∷ l.rest) ≡ stands_in_caseless l.value (l.first ∷ l.rest)

abbrev pub decreases-loop-after : goal.decreases-loop-after
decreases-loop-after l = length l.left
