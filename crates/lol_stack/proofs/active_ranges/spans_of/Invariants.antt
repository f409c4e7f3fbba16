use Rattle.std.proofs.Common.{take}
use Rattle.lol_stack.specs.Spans.{HasSpans}
use Rattle.lol_stack.proofs.active_ranges.spans_of.Given as goal

abbrev pub invariant-loop-range : goal.invariant-loop-range
invariant-loop-range l = HasSpans l.known (take l.range-index l.active)
