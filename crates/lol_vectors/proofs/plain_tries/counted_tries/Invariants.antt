use Rattle.std.proofs.Common.{◌≡◌, ◌≤◌, map, take}
use Rattle.std.specs.Prelude.{count_by}
use Rattle.lol_vectors.specs.PlainElements.{element_shown}
use Rattle.lol_vectors.specs.PlainNodes.{paths_of}
use Rattle.lol_vectors.specs.PlainTries.{is_tried_in, is_tried_open_in}
use Rattle.lol_vectors.proofs.plain_tries.counted_tries.Given as goal

abbrev pub invariant-loop-node : goal.invariant-loop-node
invariant-loop-node l =
    record {
      names : l.names ≡ count_by (is_tried_in (map element_shown l.outer)) (paths_of (take l.node-index l.nodes));
      attributes : l.attributes ≡ count_by (is_tried_open_in (element_shown l.element) (map element_shown l.outer)) (paths_of (take l.node-index l.nodes));
      names_within : l.names ≤ l.node-index;
      attributes_within : l.attributes ≤ l.node-index;
    }
