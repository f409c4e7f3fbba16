use Rattle.std.proofs.Common.{◌≡◌, drop}
use Rattle.lol_reasons.specs.Climbing.{node_with_from}
use Rattle.lol_reasons.proofs.witness.node_with.Given as goal

-- none of the instructions before has the id
abbrev pub invariant-loop-address : goal.invariant-loop-address
invariant-loop-address l = node_with_from 0 l.instructions l.id ≡ node_with_from l.address (drop l.address l.instructions) l.id
