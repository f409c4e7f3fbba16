use Rattle.std.proofs.Common.{rules, ◌≡◌, List, ℕ, Err, sym, ap, ◌∙◌, subst}
use Rattle.lol_script.specs.Devices.{ReadsToEnd}
use Rattle.lol_script.specs.Readings.{IsBad}
use Rattle.lol_script.specs.Scripts.{output, output_of}
use Rattle.lol_script.specs.declared.program.Status.TheVariants.{BadLine}
use Rattle.lol_script.specs.declared.settings.Stop.TheVariants.{Bad}
use Rattle.lol_script.proofs.ReadOn.{at_err, bad_read_on, bad_whole}
use Rattle.lol_script.proofs.program.output.Goals.{then-not-is_last+in_ok-read_to_end-in-Err-Bad, else-not-is_last}
use Rattle.lol_script.proofs.program.output.Goals as goal

pub returns-in-Ok-bad_text-clause-ok : goal.returns-in-Ok-bad_text-clause-ok
returns-in-Ok-bad_text-clause-ok g c =
    let bad = c.in-Err-Bad.bad in
    let lines = c.answer_lines.new.lines in
    let stopped : IsBad g.R.Read.remaining c.args.reader.now c.answer_lines.new.reader lines bad =
    at_err _ c.answer_lines.result (Bad bad) (let is : c.answer_lines.result ≡ Err (Bad bad) = search rules in is) c.answer_lines.ensures.stop in
    let whole : ReadsToEnd g.R.Read.remaining c.args.reader.now c.if-not-is_last.reader (λ script. output script ≡ output_of (Err bad)) = elim c.if-not-is_last.branch [
      | then-not-is_last+in_ok-read_to_end-in-Err-Bad w ↦ subst (λ reader. ReadsToEnd g.R.Read.remaining c.args.reader.now reader (λ script. output script ≡ output_of (Err bad))) (sym w.reader-is)
          (bad_read_on g.R.Read.remaining c.args.reader.now c.answer_lines.new.reader w.read_to_end.new.reader lines bad stopped (sym c.is_last.ensures ∙ w.if-not-is_last.true) w.in_ok-read_to_end-in-Err-Bad.ensures.end)
      | else-not-is_last w ↦ subst (λ reader. ReadsToEnd g.R.Read.remaining c.args.reader.now reader (λ script. output script ≡ output_of (Err bad))) (sym w.reader-is)
          (bad_whole g.R.Read.remaining c.args.reader.now c.answer_lines.new.reader lines bad stopped (sym c.is_last.ensures ∙ w.if-not-is_last.false))
    ] in
    (whole.0, whole.1, whole.2, whole.3 ∙ ap (λ (text : List ℕ). record { text = text; status = BadLine }) (sym c.in-Ok-bad_text.ensures))
