use Rattle.std.proofs.Common.{◌≡◌, ◌++◌, map, take}
use Rattle.lol_program.specs.Views.{forest_of}
use Rattle.lol_vectors.specs.PlainNodes.{path_to, node_shown, nodes_listed}
use Rattle.lol_vectors.proofs.plain_nodes.+listing.Given as goal

abbrev pub invariant-list_nodes-loop-node : goal.invariant-list_nodes-loop-node
invariant-list_nodes-loop-node l =
    map node_shown l.listed.items ≡ map node_shown l.initial.listed.items ++ nodes_listed (path_to l.above l.combinator) (forest_of (take l.node-index l.nodes))
