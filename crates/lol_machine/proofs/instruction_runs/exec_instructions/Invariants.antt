use Rattle.lol_machine.proofs.Common.{◌≡◌, ◌+◌, ◌≤◌, drop, take, sight, names_counted, attributes_counted, open_among, gathered_with_attributes}
use Rattle.lol_machine.proofs.instruction_runs.exec_instructions.Given as goal

abbrev pub invariant-loop-instruction : goal.invariant-loop-instruction
invariant-loop-instruction g l =
    let ids = g.E.ElementData.ids in
    let with_ids = g.E.ElementData.with_ids in
    let s = sight l.state l.fn.ctx.stack_item.local_name in
    record {
      names : names_counted l.tries ≡ names_counted l.fn.tries + l.instruction-index;
      attributes : attributes_counted l.tries ≡ attributes_counted l.fn.tries + open_among s (take l.instruction-index l.instructions);
      within : attributes_counted l.tries ≤ attributes_counted l.fn.tries + l.instruction-index;
      name : l.ctx.stack_item.local_name ≡ l.fn.ctx.stack_item.local_name;
      content : l.ctx.with_content ≡ l.fn.ctx.with_content;
      rest :
          gathered_with_attributes ids with_ids s l.matcher l.fn.ctx l.instructions
          ≡ gathered_with_attributes ids with_ids s l.matcher l.ctx (drop l.instruction-index l.instructions);
    }
