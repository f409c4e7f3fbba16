use Rattle.std.proofs.Common.{◌+◌, List, ◌∙◌, subst, sym}
use Rattle.lol_reasons.specs.Explanations.{Text}
use Rattle.lol_script.proofs.SelectLineLemmas.{AreRead, line_read}
use Rattle.lol_script.proofs.select_lines.SelectLines.read.Goals as goal

pub loop-line-preserved : goal.loop-line-preserved
loop-line-preserved c = λ kept keeps.
    let lines = c.deref-line-items.result.now in
    let i = c.loop-line.line-index in
    subst (λ (told : List Text). AreRead kept lines i told (i + 1) told c.split_at.result.1.now) (sym c.in_ok-add.ensures.added)
    (line_read kept lines i _ c.loop-line.rest.now c.split_at.result.0.now c.split_at.result.1.now c.min.result _
    (c.deref-line-items.ensures.value ∙ keeps.lengths) c.loop-line-test.true c.min.ensures c.split_at.ensures.front c.split_at.ensures.back c.in_ok-selector_of.ensures (c.loop-line.invariant kept keeps))
