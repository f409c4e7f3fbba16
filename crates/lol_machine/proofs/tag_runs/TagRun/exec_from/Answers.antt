use Rattle.lol_machine.proofs.Common.{◌≡◌, ◌<◌, drop, arith, sym, ap, ◌∙◌, subst, length, sight, NeedNoMemory, AreRunnable}
use Rattle.lol_machine.proofs.InstructionLists.{open_at_most, attributes_next, length_split, opens_split, others_run}
use Rattle.lol_machine.proofs.RangeSteps.{first_left, part_is}
use Rattle.lol_machine.specs.RunLaws.{err_is_not_ok}
use Rattle.lol_machine.proofs.tag_runs.TagRun.exec_from.Goals as goal

pub loop-index-preserved : goal.loop-index-preserved
loop-index-preserved g c =
    let all = c.args.self.now.instructions.now in
    let ranges = g.R.TagRanges.listed c.args.self.now.ranges in
    let k = c.loop-index.index in
    let so_far = c.loop-index.invariant in
    let part = c.instructions_in-part.result.now in
    let told = c.in_ok-exec_instructions.ensures in
    let t = sight c.args.self.now.state c.loop-index.ctx.stack_item.local_name in
    let s = sight c.args.self.now.state c.args.ctx.now.stack_item.local_name in
    let same : t ≡ s = ap (sight c.args.self.now.state) so_far.name in
    let r = c.range.result in
    let within : k < length ranges = subst (λ n. k < n) c.len-index-end.ensures c.loop-index-test.true in
    let first = first_left ranges k r within c.range.ensures in
    let is = λ (runnable : AreRunnable all (drop c.args.first ranges) c.args.tries.now). part_is all ranges k r within c.range.ensures (so_far.runs runnable) part c.instructions_in-part.ensures.value in
    record {
      runs = λ runnable. others_run all first (so_far.runs runnable) part (is runnable) c.exec_instructions.new.tries (omega (arith, told.names)) (omega (arith, told.attributes, open_at_most t part));
      names = λ runnable. omega (arith, told.names, so_far.names runnable, length_split all first part (is runnable));
      attributes = λ runnable. omega (arith, told.attributes, so_far.attributes runnable, opens_split all first part (is runnable) t s same);
      name = told.name ∙ so_far.name;
      content = told.content ∙ so_far.content;
      rest = λ runnable. so_far.rest runnable ∙ attributes_next all first part (is runnable) t s same g.E.ElementData.ids g.E.ElementData.with_ids c.loop-index.ctx c.exec_instructions.new.ctx c.args.matcher.now told.ctx;
    }

-- 2. It was refused

pub returns-in_err-exec_instructions-clause-within : goal.returns-in_err-exec_instructions-clause-within
returns-in_err-exec_instructions-clause-within g c = λ runnable.
    let all = c.args.self.now.instructions.now in
    let ranges = g.R.TagRanges.listed c.args.self.now.ranges in
    let k = c.loop-index.index in
    let so_far = c.loop-index.invariant in
    let part = c.instructions_in-part.result.now in
    let told = c.exec_instructions.ensures in
    let r = c.range.result in
    let within : k < length ranges = subst (λ n. k < n) c.len-index-end.ensures c.loop-index-test.true in
    let first = first_left ranges k r within c.range.ensures in
    let is = part_is all ranges k r within c.range.ensures (so_far.runs runnable) part c.instructions_in-part.ensures.value in
    record {
      names = omega (arith, told.names_bound, so_far.names runnable, length_split all first part is);
      attributes = omega (arith, told.attributes_bound, so_far.attributes runnable, opens_split all first part is _ _ (ap (sight c.args.self.now.state) so_far.name));
    }

pub returns-in_err-exec_instructions-clause-no_memory : goal.returns-in_err-exec_instructions-clause-no_memory
returns-in_err-exec_instructions-clause-no_memory g c = λ free.
    let ok = c.exec_instructions.ensures.no_memory (subst (λ b. NeedNoMemory b c.instructions_in-part.result.now) (sym c.loop-index.invariant.content) (c.instructions_in-part.ensures.no_memory c.args.ctx.now.with_content free)) in
    absurd (err_is_not_ok c.exec_instructions.result c.in_err-exec_instructions.field-0.0 c.in_err-exec_instructions.was ok)
