use Rattle.lol_machine.proofs.Common.{ℕ, ◌≡◌, ◌<◌, ◌+◌, length, drop, arith, refl, sym, ap, subst, Range, IfOk-weaker, sight, AreExecuted, AreRunnable, AreWithin, instructions_at, IsPointIn, IsStopIn, ranges_from, ranges_left, rest_of, tried_at}
use Rattle.std.specs.Result.{IfOk}
use Rattle.lol_machine.proofs.InstructionLists.{length_split, open_at_most, opens_split, others_run}
use Rattle.lol_machine.proofs.RangeSteps.{executed_from, rest_lent, rest_some, within_from}
use Rattle.lol_machine.specs.RunLaws.{err_is_not_ok}
use Rattle.lol_machine.proofs.tag_runs.TagRun.complete.Given as given
use Rattle.lol_machine.proofs.tag_runs.TagRun.complete.Goals as goal

-- 1. It was refused in the range of the stop

pub returns-in_err-complete_instructions-clause-within : goal.returns-in_err-complete_instructions-clause-within
returns-in_err-complete_instructions-clause-within g c =
    subst (λ p. IsPointIn c.args.self.now.instructions.now (g.R.TagRanges.listed c.args.self.now.ranges) p → AreRunnable c.args.self.now.instructions.now (ranges_left (g.R.TagRanges.listed c.args.self.now.ranges) p) c.args.tries.now → AreWithin (sight c.args.self.now.state c.args.ctx.now.stack_item.local_name) c.args.self.now.instructions.now (ranges_left (g.R.TagRanges.listed c.args.self.now.ranges) p) c.args.tries.now c.complete_instructions.new.tries (tried_at p)) (sym c.in-At.is) (λ is_stop runnable.
    let all = c.args.self.now.instructions.now in
    let ranges = g.R.TagRanges.listed c.args.self.now.ranges in
    let stop = c.in-At.stop in
    let part = c.instructions_in-part.result.now in
    let told = c.complete_instructions.ensures in
    let s = sight c.args.self.now.state c.args.ctx.now.stack_item.local_name in
    let r = c.range.result in
    let is = rest_lent all ranges stop is_stop c.args.tries.now runnable part r c.range_from-left.result c.range.ensures c.range_from-left.ensures c.instructions_in-part.ensures.value in
    let some = rest_some all ranges stop is_stop c.args.tries.now runnable part is in
    record {
      names = omega (arith, told.names_bound, some, length_split all {r = rest_of ranges stop} {others = drop (stop.range + 1) ranges} refl part is);
      attributes = omega (arith, told.attributes_bound, opens_split all {r = rest_of ranges stop} {others = drop (stop.range + 1) ranges} refl part is s s refl);
    })

pub returns-in_err-complete_instructions-clause-no_memory : goal.returns-in_err-complete_instructions-clause-no_memory
returns-in_err-complete_instructions-clause-no_memory g c = λ free.
    absurd (err_is_not_ok c.complete_instructions.result c.in_err-complete_instructions.field-0.0 c.in_err-complete_instructions.was (c.complete_instructions.ensures.no_memory (c.instructions_in-part.ensures.no_memory c.args.ctx.now.with_content free)))

-- 2. The ranges after it were run

module _ (g : given.Over) (c : goal.After-exec_from-2 g) (is_stop : IsStopIn c.args.self.now.instructions.now (g.R.TagRanges.listed c.args.self.now.ranges) c.in-At.stop) (runnable : AreRunnable c.args.self.now.instructions.now (ranges_from (g.R.TagRanges.listed c.args.self.now.ranges) c.in-At.stop) c.args.tries.now) where
  abbrev rest : Range ℕ
  rest = rest_of (g.R.TagRanges.listed c.args.self.now.ranges) c.in-At.stop

  is : c.instructions_in-part.result.now ≡ instructions_at c.args.self.now.instructions.now rest
  is =
      rest_lent c.args.self.now.instructions.now (g.R.TagRanges.listed c.args.self.now.ranges) c.in-At.stop is_stop c.args.tries.now runnable c.instructions_in-part.result.now c.range.result c.range_from-left.result
      c.range.ensures c.range_from-left.ensures c.instructions_in-part.ensures.value

  some : 0 < length c.instructions_in-part.result.now
  some = rest_some c.args.self.now.instructions.now (g.R.TagRanges.listed c.args.self.now.ranges) c.in-At.stop is_stop c.args.tries.now runnable c.instructions_in-part.result.now is

  others_can : AreRunnable c.args.self.now.instructions.now (drop (c.in-At.stop.range + 1) (g.R.TagRanges.listed c.args.self.now.ranges)) c.complete_instructions.new.tries
  others_can =
      let told = c.in_ok-complete_instructions.ensures in
      others_run c.args.self.now.instructions.now {r = rest} refl runnable c.instructions_in-part.result.now is c.complete_instructions.new.tries
      (omega (arith, told.names_bound))
      (omega (arith, told.attributes_bound, open_at_most (sight c.args.self.now.state c.args.ctx.now.stack_item.local_name) c.instructions_in-part.result.now))

pub returns-clause-executed : goal.returns-clause-executed
returns-clause-executed g c =
    subst (λ p. IsPointIn c.args.self.now.instructions.now (g.R.TagRanges.listed c.args.self.now.ranges) p → AreRunnable c.args.self.now.instructions.now (ranges_left (g.R.TagRanges.listed c.args.self.now.ranges) p) c.args.tries.now → IfOk c.exec_from-2.result (λ done. AreExecuted g.E.ElementData.ids g.E.ElementData.with_ids (sight c.args.self.now.state c.args.ctx.now.stack_item.local_name) c.args.self.now.instructions.now (ranges_left (g.R.TagRanges.listed c.args.self.now.ranges) p) c.args.ctx.now c.exec_from-2.new.ctx c.args.tries.now c.exec_from-2.new.tries c.args.matcher.now (tried_at p))) (sym c.in-At.is) (λ is_stop runnable.
    let told = c.in_ok-complete_instructions.ensures in
    IfOk-weaker c.exec_from-2.result _ _
    (λ done later. executed_from g.E.ElementData.ids g.E.ElementData.with_ids (sight c.args.self.now.state c.args.ctx.now.stack_item.local_name) _ (ap (sight c.args.self.now.state) told.name)
    c.args.self.now.instructions.now (rest g c is_stop runnable) (drop (c.in-At.stop.range + 1) (g.R.TagRanges.listed c.args.self.now.ranges)) c.instructions_in-part.result.now (is g c is_stop runnable)
    c.args.tries.now c.complete_instructions.new.tries c.exec_from-2.new.tries c.args.matcher.now c.args.ctx.now c.complete_instructions.new.ctx c.exec_from-2.new.ctx (some g c is_stop runnable) told.ctx told.names told.attributes later)
    (c.exec_from-2.ensures.executed (others_can g c is_stop runnable)))

pub returns-clause-within : goal.returns-clause-within
returns-clause-within g c =
    subst (λ p. IsPointIn c.args.self.now.instructions.now (g.R.TagRanges.listed c.args.self.now.ranges) p → AreRunnable c.args.self.now.instructions.now (ranges_left (g.R.TagRanges.listed c.args.self.now.ranges) p) c.args.tries.now → AreWithin (sight c.args.self.now.state c.args.ctx.now.stack_item.local_name) c.args.self.now.instructions.now (ranges_left (g.R.TagRanges.listed c.args.self.now.ranges) p) c.args.tries.now c.exec_from-2.new.tries (tried_at p)) (sym c.in-At.is) (λ is_stop runnable.
    let told = c.in_ok-complete_instructions.ensures in
    within_from g.E.ElementData.ids g.E.ElementData.with_ids (sight c.args.self.now.state c.args.ctx.now.stack_item.local_name) _ (ap (sight c.args.self.now.state) told.name)
    c.args.self.now.instructions.now (rest g c is_stop runnable) (drop (c.in-At.stop.range + 1) (g.R.TagRanges.listed c.args.self.now.ranges)) c.instructions_in-part.result.now (is g c is_stop runnable)
    c.args.tries.now c.complete_instructions.new.tries c.exec_from-2.new.tries (some g c is_stop runnable) told.names_bound told.attributes_bound (c.exec_from-2.ensures.within (others_can g c is_stop runnable)))
