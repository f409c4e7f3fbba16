use Rattle.std.proofs.Common.{◌≡◌, ◌+◌, ◌≤◌, drop, take, length, vec_len, vec_capacity}
use Rattle.lol_stack.specs.Active.{activated}
use Rattle.lol_stack.specs.Spans.{HasSpans}
use Rattle.lol_stack.proofs.active_ranges.add_unknown.Given as goal

abbrev pub invariant-loop-range : goal.invariant-loop-range
invariant-loop-range l = record {
  room : vec_len l.active + length (drop l.range-index l.ranges) ≤ vec_capacity l.active;
  rest : activated l.active.items l.depth (drop l.range-index l.ranges) ≡ activated l.initial.active.items l.depth l.ranges;
  spans : HasSpans l.known l.active.items;
  longer : length l.initial.active.items ≤ length l.active.items;
  kept : take (length l.initial.active.items) l.active.items ≡ l.initial.active.items;
}
