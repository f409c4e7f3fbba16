use Rattle.std.proofs.Common.{◌≡◌, ◌+◌, ◌≤◌, drop, length, vec_len, vec_capacity}
use Rattle.lol_stack.specs.Active.{activated}
use Rattle.lol_stack.proofs.active_ranges.add_missing.Given as goal

abbrev pub invariant-loop-range : goal.invariant-loop-range
invariant-loop-range l = record {
  room : vec_len l.active + length (drop l.range-index l.ranges) ≤ vec_capacity l.active;
  rest : activated l.active.items l.depth (drop l.range-index l.ranges) ≡ activated l.initial.active.items l.depth l.ranges;
}
