-- What a machine is about to run, and how often nodes are tried.
use Rattle.lol_machine.proofs.Common.{by_names, is_open, last_compound, document, longest, is_tried, is_tried_open, and_parts}
use Rattle.std.proofs.lemmas.List.Sums.{count_by-le-length}
use Rattle.lol_machine.specs.VmLaws.{RangesHoldOnce, TriesAreFew}
use Rattle.lol_machine.proofs.Starts.{held}
use Rattle.lol_machine.proofs.StackCounting.{fewer}

-- what it is about to run
pub ranges_hold_once : {E : Type 0} → RangesHoldOnce E
ranges_hold_once s esi vm events h = record {
  paths = h.paths;
  program = h.standing.program;
  held = held (record { s = s; paths = h.paths; closed = h.closed; prog = vm.program; stack = vm.stack; d = document s esi events; most = longest s esi events; standing = h.standing });
}

pub tries_are_few : TriesAreFew
tries_are_few s e outer = (
  fewer (is_tried_open s e outer) (is_tried s e outer) (λ node h. (and_parts (is_tried s e outer node) (is_open (by_names (last_compound node) e)) h).0) s.nodes,
  count_by-le-length (is_tried s e outer) s.nodes,
)
