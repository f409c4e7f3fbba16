use Rattle.std.proofs.Common.{◌≡◌, sym, ap, ◌∙◌}
use Rattle.lol_script.specs.declared.program.Status.{Status}
use Rattle.lol_script.proofs.AnswerLines.{status_of, written_whole}
use Rattle.lol_script.proofs.script_run.ScriptRun.finish.Goals.{then-has_failed, else-has_failed}
use Rattle.lol_script.proofs.script_run.ScriptRun.finish.Goals as goal

pub returns : goal.returns
returns c = λ s answers.
    let status : status_of c.args.self.matcher.failed ≡ c.if-has_failed.status = ap status_of (sym c.has_failed.ensures) ∙ elim c.if-has_failed.branch [
      | then-has_failed w ↦ ap status_of w.if-has_failed.true ∙ sym w.status-is
      | else-has_failed w ↦ ap status_of w.if-has_failed.false ∙ sym w.status-is
    ] in
    written_whole c.args.self s answers ∙ ap (λ (status : Status). record { text = c.args.self.written.text.items; status = status }) status
