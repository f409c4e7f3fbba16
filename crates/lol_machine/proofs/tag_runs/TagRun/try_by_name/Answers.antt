use Rattle.lol_machine.proofs.Common.{◌≡◌, ◌+◌, ◌<◌, length, take, drop, arith, sym, ap, Some, None, ◌∙◌, subst, sight, names_counted, NeedNoMemory, AreRunnable, all_at, instructions_at, tried_until, first_open_from}
use Rattle.lol_machine.proofs.RangeSteps.{first_left, part_is, length_next, tried_within}
use Rattle.lol_machine.proofs.InstructionLists.{names_here, names_next, others_run, stop_here, stop_next}
use Rattle.lol_machine.specs.RunLaws.{err_is_not_ok}
use Rattle.lol_machine.proofs.tag_runs.TagRun.try_by_name.Goals as goal

pub loop-index-preserved : goal.loop-index-preserved
loop-index-preserved g c =
    let all = c.args.self.now.instructions.now in
    let ranges = g.R.TagRanges.listed c.args.self.now.ranges in
    let now = c.loop-index.tries in
    let k = c.loop-index.index in
    let so_far = c.loop-index.invariant in
    let part = c.instructions_in-part.result.now in
    let told = c.in_ok-offset.ensures in
    let t = sight c.args.self.now.state c.loop-index.ctx.stack_item.local_name in
    let s = sight c.args.self.now.state c.args.ctx.now.stack_item.local_name in
    let same : t ≡ s = ap (sight c.args.self.now.state) so_far.name in
    let r = c.range.result in
    let within : k < length ranges = subst (λ n. k < n) c.len-index-end.ensures c.loop-index-test.true in
    let first = first_left ranges k r within c.range.ensures in
    let is = λ (runnable : AreRunnable all ranges c.args.tries.now). part_is all ranges k r within c.range.ensures (so_far.runs runnable) part c.instructions_in-part.ensures.value in
    let next = λ (runnable : AreRunnable all ranges c.args.tries.now). length_next all ranges k r within c.range.ensures (so_far.runs runnable) part c.instructions_in-part.ensures.value in
    let passed : names_counted c.try_instructions.new.tries ≡ names_counted now + length part =
    told.names ∙ ap (λ o. names_counted now + tried_until o (length part)) c.in_default.is in
    let none : first_open_from t 0 part ≡ None = sym told.stop ∙ c.in_default.is in
    record {
      runs = λ runnable. others_run all first (so_far.runs runnable) part (is runnable) c.try_instructions.new.tries (omega (arith, told.names_bound)) (omega (arith, told.attributes));
      names = λ runnable. omega (arith, passed, so_far.names runnable, next runnable);
      attributes = told.attributes ∙ so_far.attributes;
      name = told.name ∙ so_far.name;
      content = told.content ∙ so_far.content;
      stop = λ runnable.
          so_far.stop runnable
          ∙ (stop_next all first part (is runnable) t s same (length (all_at all (take k ranges))) none
          ∙ ap (λ n. first_open_from s n (all_at all (drop (k + 1) ranges))) (sym (next runnable)));
      rest = λ runnable. so_far.rest runnable ∙ names_next all first part (is runnable) t s same g.E.ElementData.ids g.E.ElementData.with_ids c.loop-index.ctx c.try_instructions.new.ctx none told.ctx;
    }

-- 2. It stopped

pub returns-in-Some-clause-tried : goal.returns-in-Some-clause-tried
returns-in-Some-clause-tried g c = λ runnable.
    let all = c.args.self.now.instructions.now in
    let ranges = g.R.TagRanges.listed c.args.self.now.ranges in
    let now = c.loop-index.tries in
    let k = c.loop-index.index in
    let so_far = c.loop-index.invariant in
    let part = c.instructions_in-part.result.now in
    let told = c.in_ok-offset.ensures in
    let t = sight c.args.self.now.state c.loop-index.ctx.stack_item.local_name in
    let s = sight c.args.self.now.state c.args.ctx.now.stack_item.local_name in
    let same : t ≡ s = ap (sight c.args.self.now.state) so_far.name in
    let r = c.range.result in
    let within : k < length ranges = subst (λ n. k < n) c.len-index-end.ensures c.loop-index-test.true in
    let first = first_left ranges k r within c.range.ensures in
    let is = part_is all ranges k r within c.range.ensures (so_far.runs runnable) part c.instructions_in-part.ensures.value in
    let some : first_open_from t 0 part ≡ Some c.in-Some.offset = sym told.stop ∙ c.in-Some.is in
    let passed : names_counted c.try_instructions.new.tries ≡ names_counted now + (c.in-Some.offset + 1) = told.names ∙ ap (λ o. names_counted now + tried_until o (length part)) c.in-Some.is in
    record {
      stops = sym (so_far.stop runnable ∙ stop_here all first part is t s same (length (all_at all (take k ranges))) c.in-Some.offset some);
      within = (within, subst (λ q. c.in-Some.offset < length (instructions_at all q)) c.range.ensures (omega (arith, passed, told.names_bound, ap length is)));
      gathered = names_here all first part is t s same g.E.ElementData.ids g.E.ElementData.with_ids c.loop-index.ctx c.try_instructions.new.ctx c.in-Some.offset some told.ctx ∙ sym (so_far.rest runnable);
      names = omega (arith, passed, so_far.names runnable);
    }

pub returns-in-Some-clause-within : goal.returns-in-Some-clause-within
returns-in-Some-clause-within g c = λ runnable.
    let so_far = c.loop-index.invariant in
    let told = c.try_instructions.ensures in
    tried_within c.args.self.now.instructions.now (g.R.TagRanges.listed c.args.self.now.ranges) c.loop-index.index c.range.result (subst (λ n. c.loop-index.index < n) c.len-index-end.ensures c.loop-index-test.true) c.range.ensures
    (so_far.runs runnable) c.instructions_in-part.result.now c.instructions_in-part.ensures.value _ c.args.tries.now _ (so_far.names runnable) so_far.attributes told.names_bound told.attributes

-- 3. It was refused

pub returns-in_err-offset-clause-within : goal.returns-in_err-offset-clause-within
returns-in_err-offset-clause-within g c = λ runnable.
    let so_far = c.loop-index.invariant in
    let told = c.try_instructions.ensures in
    tried_within c.args.self.now.instructions.now (g.R.TagRanges.listed c.args.self.now.ranges) c.loop-index.index c.range.result (subst (λ n. c.loop-index.index < n) c.len-index-end.ensures c.loop-index-test.true) c.range.ensures
    (so_far.runs runnable) c.instructions_in-part.result.now c.instructions_in-part.ensures.value _ c.args.tries.now _ (so_far.names runnable) so_far.attributes told.names_bound told.attributes

pub returns-in_err-offset-clause-no_memory : goal.returns-in_err-offset-clause-no_memory
returns-in_err-offset-clause-no_memory g c = λ free.
    let ok = c.try_instructions.ensures.no_memory (subst (λ b. NeedNoMemory b c.instructions_in-part.result.now) (sym c.loop-index.invariant.content) (c.instructions_in-part.ensures.no_memory c.args.ctx.now.with_content free)) in
    absurd (err_is_not_ok c.try_instructions.result c.in_err-offset.field-0.0 c.in_err-offset.was ok)
