use Rattle.std.proofs.Common.{◌≡◌, map, take}
use Rattle.lol_memory.specs.Ids.{ascending}
use Rattle.lol_machine.specs.Answers as answers
use Rattle.lol_vectors.specs.PlainElements.{element_shown}
use Rattle.lol_vectors.specs.PlainNodes.{pairs_of}
use Rattle.lol_vectors.proofs.plain_nodes.matching_ids.Given as goal

abbrev pub invariant-loop-node : goal.invariant-loop-node
invariant-loop-node l = ascending l.ids ≡ answers.matching_ids (pairs_of (take l.node-index l.nodes)) (element_shown l.element) (map element_shown l.outer)
