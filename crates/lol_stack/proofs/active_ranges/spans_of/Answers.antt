use Rattle.std.proofs.Common.{subst, sym, ℕ}
use Rattle.std.proofs.lemmas.List.{take_more}
use Rattle.std.specs.declared.ops.Range.{Range}
use Rattle.std.specs.Prelude.{get_or, take}
use Rattle.lol_stack.specs.WithRange.{no_range}
use Rattle.lol_stack.specs.Spans.{HasSpans}
use Rattle.lol_stack.proofs.SpanLemmas.{spans_more}
use Rattle.lol_stack.proofs.active_ranges.spans_of.Goals as goal

pub loop-range-preserved : goal.loop-range-preserved
loop-range-preserved c =
    let active = c.args.active.now in
    let at = c.loop-range.range-index in
    let here : Range ℕ × ℕ = get_or active at (no_range, 0) in
    subst (HasSpans c.insert.new.self) (sym (take_more active at (no_range, 0) c.loop-range-test.true))
    (spans_more c.loop-range.known c.insert.new.self (take at active) here.0 here.1 c.loop-range.invariant c.in_ok-insert.ensures.updates)
