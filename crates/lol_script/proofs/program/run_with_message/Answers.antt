use Rattle.std.proofs.Common.{ap, sym, ◌∙◌}
use Rattle.lol_script.proofs.program.run_with_message.Goals as goal

pub returns-in_err-write_text-clause-beginning : goal.returns-in_err-write_text-clause-beginning
returns-in_err-write_text-clause-beginning g c = λ is.
    let out = c.in_err-write_text.ensures.beginning in
    let made = c.in_ok-text.ensures.ok in (
      made.0,
      made.1,
      made.2,
      (out.0, (out.1.0, out.1.1, ap (λ o. o.text) made.3 ∙ (sym c.deref.ensures.value ∙ out.1.2))),
    )
