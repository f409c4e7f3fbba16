use Rattle.std.proofs.Common.{◌≡◌, ◌≤◌, length}
use Rattle.lol_stack.specs.TypedCounts.{cut_to}
use Rattle.lol_stack.proofs.counters.TypedChildCounterMap.pop_to.Given as goal

abbrev pub invariant-loop : goal.invariant-loop
invariant-loop l = record {
  kept : cut_to l.index l.self ≡ cut_to l.index l.initial.self;
  fewer : length l.self ≤ length l.initial.self;
}

abbrev pub decreases-loop : goal.decreases-loop
decreases-loop l = length l.self
