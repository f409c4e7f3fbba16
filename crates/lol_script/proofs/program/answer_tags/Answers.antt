use Rattle.std.proofs.Common.{List, ℕ, sym, ◌∙◌, subst}
use Rattle.std.proofs.lemmas.Result.{err_from_is_err_and}
use Rattle.lol_script.specs.Answering.{IsTagIfFirst}
use Rattle.lol_script.proofs.ReadOn.{at_line, line_stops, line_taken, read_whole}
use Rattle.lol_script.proofs.program.answer_tags.Goals as goal

pub returns-in_err-take_line-clause-stop : goal.returns-in_err-take_line-clause-stop
returns-in_err-take_line-clause-stop g c =
    let p = err_from_is_err_and c.from_residual.result c.from_residual.ensures.1 in
    rw (p.1, p.2) (λ start s r answers first.
    let at = c.loop-lines.invariant.read start s r answers first in
    let at_tag = subst (λ (line : List ℕ). IsTagIfFirst line at.0) (sym c.line.ensures) at.3 in
    line_stops g.R.Read.remaining start c.loop-lines.reader c.loop-lines.lines at.0 at.1 _ _ c.number.ensures c.line.ensures c.in_err-take_line.field-0.0 (c.in_err-take_line.ensures.stop at.0 at.2 at_tag))

pub returns-then-is_last-clause-whole : goal.returns-then-is_last-clause-whole
returns-then-is_last-clause-whole g c = λ start s r answers first.
    let at = c.loop-lines.invariant.read start s r answers first in
    let at_tag = subst (λ (line : List ℕ). IsTagIfFirst line at.0) (sym c.line.ensures) at.3 in
    let taken = c.in_ok-take_line.ensures.taken at.0 at.2 at_tag in
    let after = line_taken g.R.Read.remaining start c.loop-lines.reader c.loop-lines.lines at.0 at.1 _ _ c.number.ensures c.line.ensures taken.0 taken.2 in
    let whole = read_whole g.R.Read.remaining start c.loop-lines.reader c.loop-lines.lines _ taken.0 after (sym c.is_last.ensures ∙ c.if-is_last.true) in
    (whole.0, whole.1, whole.2, (taken.0, taken.1, whole.3))

pub loop-lines-preserved : goal.loop-lines-preserved
loop-lines-preserved g c = record {
  read = λ start s r answers first.
      let at = c.loop-lines.invariant.read start s r answers first in
      let at_tag = subst (λ (line : List ℕ). IsTagIfFirst line at.0) (sym c.line.ensures) at.3 in
      let taken = c.in_ok-take_line.ensures.taken at.0 at.2 at_tag in
      let after = line_taken g.R.Read.remaining start c.loop-lines.reader c.loop-lines.lines at.0 at.1 _ _ c.number.ensures c.line.ensures taken.0 taken.2 in
      let next = at_line g.R.Read.remaining start c.loop-lines.reader c.advance.new.reader c.loop-lines.lines c.advance.new.self taken.0 after (sym c.is_last.ensures ∙ c.if-is_last.false) c.in_default.ensures.next c.in_default.ensures.unchanged in
      (taken.0, next, taken.1, λ none. absurd (taken.3 none));
  failures = c.in_default.ensures.unchanged ∙ c.loop-lines.invariant.failures;
}
