use Rattle.std.proofs.Common.{◌≡◌, drop}
use Rattle.lol_reasons.specs.Climbing.{node_above_from}
use Rattle.lol_reasons.proofs.witness.node_above.Given as goal

-- none of the instructions before stands above the address
abbrev pub invariant-loop-front : goal.invariant-loop-front
invariant-loop-front l = node_above_from 0 l.instructions l.address ≡ node_above_from l.front (drop l.front l.instructions) l.address
