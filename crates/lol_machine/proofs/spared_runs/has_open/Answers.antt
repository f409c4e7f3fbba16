use Rattle.lol_machine.proofs.Common.{◌<◌, length, subst, ◌∙◌, sym}
use Rattle.lol_rows.specs.Rows.{is_left_open}
use Rattle.lol_machine.specs.TagRuns.{all_ranges}
use Rattle.lol_machine.proofs.Finding.{none_more}
use Rattle.lol_machine.proofs.spared_runs.has_open.Goals as goal

pub loop-index-preserved : goal.loop-index-preserved
loop-index-preserved c = λ rows hashed.
    let within : c.loop-index.index < length (all_ranges c.args.ranges) = subst (λ n. c.loop-index.index < n) c.len-index-end.ensures c.loop-index-test.true in
    none_more (is_left_open c.args.name.now.lowercased) c.args.instructions.now (all_ranges c.args.ranges) c.loop-index.index c.range.result within c.range.ensures
    (c.loop-index.invariant rows hashed) (sym (c.has_open.ensures rows hashed) ∙ c.if-has_open.false)
