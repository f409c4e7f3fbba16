use Rattle.lol_machine.proofs.Common.{◌≡◌, ◌+◌, drop, length, sight, names_counted, attributes_counted, AreRunnable, all_at, open_among, gathered_with_attributes}
use Rattle.lol_machine.proofs.tag_runs.TagRun.exec_from.Given as goal

abbrev pub invariant-loop-index : goal.invariant-loop-index
invariant-loop-index g l =
    let ids = g.E.ElementData.ids in
    let with_ids = g.E.ElementData.with_ids in
    let s = sight l.self.state l.fn.ctx.stack_item.local_name in
    let all = l.self.instructions.now in
    let ranges = g.R.TagRanges.listed l.self.ranges in
    let runnable = AreRunnable all (drop l.first ranges) l.fn.tries in
    let whole = all_at all (drop l.first ranges) in
    let left = all_at all (drop l.index ranges) in
    record {
      runs : runnable → AreRunnable all (drop l.index ranges) l.tries;
      names : runnable → names_counted l.tries + length left ≡ names_counted l.fn.tries + length whole;
      attributes : runnable → attributes_counted l.tries + open_among s left ≡ attributes_counted l.fn.tries + open_among s whole;
      name : l.ctx.stack_item.local_name ≡ l.fn.ctx.stack_item.local_name;
      content : l.ctx.with_content ≡ l.fn.ctx.with_content;
      rest :
          runnable
          → gathered_with_attributes ids with_ids s l.matcher l.fn.ctx whole
          ≡ gathered_with_attributes ids with_ids s l.matcher l.ctx left;
    }
