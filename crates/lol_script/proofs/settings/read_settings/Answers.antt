use Rattle.std.proofs.Common.{List, ℕ, sym, ◌∙◌, subst}
use Rattle.std.proofs.lemmas.Result.{err_from_is_err_and}
use Rattle.lol_script.specs.Readings.{IsReading, IsTagLine}
use Rattle.lol_script.specs.Script.{line_at}
use Rattle.lol_script.proofs.ReadOn.{at_line, line_stops, line_taken, match_false, match_true, no_output, read_whole}
use Rattle.lol_script.proofs.settings.read_settings.Goals as goal

pub returns-in_err-take_line-clause-stop : goal.returns-in_err-take_line-clause-stop
returns-in_err-take_line-clause-stop g c =
    let p = err_from_is_err_and c.from_residual.result c.from_residual.ensures.1 in
    let before = c.loop-fault.invariant.read in
    let r = at_line g.R.Read.remaining c.args.reader.now c.loop-fault.reader c.advance.new.reader c.loop-fault.lines c.advance.new.self before.0 before.2 c.loop-fault.invariant.isnt_last c.in_default.ensures.next c.in_default.ensures.unchanged in
    rw (p.1, p.2) (line_stops g.R.Read.remaining c.args.reader.now c.advance.new.reader c.advance.new.self before.0 r _ _ c.number.ensures c.line.ensures c.in_err-take_line.field-0.0 (c.in_err-take_line.ensures.stop before.0 before.1))

pub returns-then-not-branch-clause-tags : goal.returns-then-not-branch-clause-tags
returns-then-not-branch-clause-tags g c =
    let before = c.loop-fault.invariant.read in
    let r = at_line g.R.Read.remaining c.args.reader.now c.loop-fault.reader c.advance.new.reader c.loop-fault.lines c.advance.new.self before.0 before.2 c.loop-fault.invariant.isnt_last c.in_default.ensures.next c.in_default.ensures.unchanged in
    let left = match_false _ c.in_ok-take_line.field-0 c.if-not-branch.true (c.in_ok-take_line.ensures.taken before.0 before.1) in
    (before.0, subst (λ settings. IsReading settings before.0) (sym left.0) before.1, r, subst (λ (line : List ℕ). IsTagLine (line_at line)) c.line.ensures left.1)

pub returns-then-is_last-clause-none : goal.returns-then-is_last-clause-none
returns-then-is_last-clause-none g c = λ none.
    let before = c.loop-fault.invariant.read in
    let r = at_line g.R.Read.remaining c.args.reader.now c.loop-fault.reader c.advance.new.reader c.loop-fault.lines c.advance.new.self before.0 before.2 c.loop-fault.invariant.isnt_last c.in_default.ensures.next c.in_default.ensures.unchanged in
    let taken = match_true _ c.in_ok-take_line.field-0 c.if-not-branch.false (c.in_ok-take_line.ensures.taken before.0 before.1) in
    let after = line_taken g.R.Read.remaining c.args.reader.now c.advance.new.reader c.advance.new.self before.0 r _ _ c.number.ensures c.line.ensures taken.0 taken.2 in
    let whole = read_whole g.R.Read.remaining c.args.reader.now c.advance.new.reader c.advance.new.self _ taken.0 after (sym c.is_last.ensures ∙ c.if-is_last.true) in
    (whole.0, whole.1, whole.2, whole.3 ∙ no_output taken.0 taken.1.none)

pub loop-fault-preserved : goal.loop-fault-preserved
loop-fault-preserved g c =
    let before = c.loop-fault.invariant.read in
    let r = at_line g.R.Read.remaining c.args.reader.now c.loop-fault.reader c.advance.new.reader c.loop-fault.lines c.advance.new.self before.0 before.2 c.loop-fault.invariant.isnt_last c.in_default.ensures.next c.in_default.ensures.unchanged in
    let taken = match_true _ c.in_ok-take_line.field-0 c.if-not-branch.false (c.in_ok-take_line.ensures.taken before.0 before.1) in
    record {
      read = (taken.0, taken.1, line_taken g.R.Read.remaining c.args.reader.now c.advance.new.reader c.advance.new.self before.0 r _ _ c.number.ensures c.line.ensures taken.0 taken.2);
      isnt_last = sym c.is_last.ensures ∙ c.if-is_last.false;
      failures = c.in_default.ensures.unchanged ∙ c.loop-fault.invariant.failures;
    }
