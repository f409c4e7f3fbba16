use Rattle.lol_machine.proofs.Common.{◌≡◌, ◌+◌, drop, sight, names_counted, attributes_counted, first_open_from, gathered_by_names}
use Rattle.lol_machine.proofs.instruction_runs.try_instructions.Given as goal

abbrev pub invariant-loop-at : goal.invariant-loop-at
invariant-loop-at g l =
    let ids = g.E.ElementData.ids in
    let with_ids = g.E.ElementData.with_ids in
    let s = sight l.state l.fn.ctx.stack_item.local_name in
    record {
      names : names_counted l.tries ≡ names_counted l.fn.tries + l.at;
      attributes : attributes_counted l.tries ≡ attributes_counted l.fn.tries;
      name : l.ctx.stack_item.local_name ≡ l.fn.ctx.stack_item.local_name;
      content : l.ctx.with_content ≡ l.fn.ctx.with_content;
      stop : first_open_from s 0 l.instructions ≡ first_open_from s l.at (drop l.at l.instructions);
      rest :
          gathered_by_names ids with_ids s l.fn.ctx l.instructions
          ≡ gathered_by_names ids with_ids s l.ctx (drop l.at l.instructions);
    }
