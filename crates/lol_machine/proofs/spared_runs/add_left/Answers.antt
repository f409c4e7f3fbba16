use Rattle.lol_machine.proofs.Common.{append-nil, ◌++◌, ◌<◌, ◌≤◌, arith, sym, ap, ◌∙◌, subst, length, take}
use Rattle.std.proofs.Common.{append_assoc}
use Rattle.std.proofs.lemmas.List.{length-append}
use Rattle.lol_rows.specs.LeftLaws.{passing_most}
use Rattle.lol_rows.specs.Rows.{leaves, passing}
use Rattle.lol_machine.specs.SparedRuns.{all_passing}
use Rattle.lol_machine.specs.TagRuns.{all_ranges}
use Rattle.lol_machine.proofs.Finding.{found_all, found_more, found_room}
use Rattle.lol_machine.specs.RunLaws.{err_is_not_ok}
use Rattle.lol_machine.proofs.spared_runs.add_left.Goals as goal

pub loop-index-init : goal.loop-index-init
loop-index-init c = record { left = λ rows its. sym (append-nil c.args.left.now.items); room = omega arith }

pub returns-in_err-add_left-clause-no_memory : goal.returns-in_err-add_left-clause-no_memory
returns-in_err-add_left-clause-no_memory c = λ rows its room.
    let p = leaves c.args.keys.now in
    let instructions = c.args.instructions.now in
    let ranges = all_ranges c.args.ranges in
    let r = c.range.result in
    let within : c.loop-index.index < length ranges = subst (λ n. c.loop-index.index < n) c.len-index-end.ensures c.loop-index-test.true in
    let fits = found_room p instructions ranges c.loop-index.index r within c.range.ensures in
    let most = passing_most p instructions r in
    let so_far = ap length (c.loop-index.invariant.left rows its) in
    let sum = length-append c.args.left.now.items (all_passing p instructions (take c.loop-index.index ranges)) in
    absurd (err_is_not_ok c.add_left.result c.in_err-add_left.field-0.0 c.in_err-add_left.was (c.add_left.ensures.no_memory rows its (omega (arith, room, fits, most, so_far, sum, c.loop-index.invariant.room))))

pub loop-index-preserved : goal.loop-index-preserved
loop-index-preserved c =
    let p = leaves c.args.keys.now in
    let instructions = c.args.instructions.now in
    let ranges = all_ranges c.args.ranges in
    let r = c.range.result in
    let within : c.loop-index.index < length ranges = subst (λ n. c.loop-index.index < n) c.len-index-end.ensures c.loop-index-test.true in
    record {
      left = λ rows its.
          c.in_ok-add_left.ensures.left rows its
          ∙ (ap (λ xs. xs ++ passing p instructions r) (c.loop-index.invariant.left rows its)
          ∙ (append_assoc c.args.left.now.items (all_passing p instructions (take c.loop-index.index ranges)) (passing p instructions r)
          ∙ ap (λ xs. c.args.left.now.items ++ xs) (sym (found_more p instructions ranges c.loop-index.index r within c.range.ensures))));
      room = omega (arith, c.loop-index.invariant.room, c.add_left.ensures.capacity);
    }

pub returns-clause-left : goal.returns-clause-left
returns-clause-left c = λ rows its.
    c.loop-index.invariant.left rows its
    ∙ ap (λ xs. c.args.left.now.items ++ xs) (found_all (leaves c.args.keys.now) c.args.instructions.now (all_ranges c.args.ranges) c.loop-index.index (subst (λ n. n ≤ c.loop-index.index) c.len-index-end.ensures c.loop-index-test.false))
