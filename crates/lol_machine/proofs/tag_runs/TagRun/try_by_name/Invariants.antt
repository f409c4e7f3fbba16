use Rattle.lol_machine.proofs.Common.{◌≡◌, ◌+◌, drop, take, length, sight, names_counted, attributes_counted, AreRunnable, all_at, first_open_from, gathered_by_names}
use Rattle.lol_machine.proofs.tag_runs.TagRun.try_by_name.Given as goal

abbrev pub invariant-loop-index : goal.invariant-loop-index
invariant-loop-index g l =
    let ids = g.E.ElementData.ids in
    let with_ids = g.E.ElementData.with_ids in
    let s = sight l.self.state l.fn.ctx.stack_item.local_name in
    let all = l.self.instructions.now in
    let ranges = g.R.TagRanges.listed l.self.ranges in
    let runnable = AreRunnable all ranges l.fn.tries in
    let before = length (all_at all (take l.index ranges)) in
    let left = all_at all (drop l.index ranges) in
    record {
      runs : runnable → AreRunnable all (drop l.index ranges) l.tries;
      names : runnable → names_counted l.tries ≡ names_counted l.fn.tries + before;
      attributes : attributes_counted l.tries ≡ attributes_counted l.fn.tries;
      name : l.ctx.stack_item.local_name ≡ l.fn.ctx.stack_item.local_name;
      content : l.ctx.with_content ≡ l.fn.ctx.with_content;
      stop : runnable → first_open_from s 0 (all_at all ranges) ≡ first_open_from s before left;
      rest :
          runnable
          → gathered_by_names ids with_ids s l.fn.ctx (all_at all ranges) ≡ gathered_by_names ids with_ids s l.ctx left;
    }
