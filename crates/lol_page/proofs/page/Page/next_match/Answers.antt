-- One part more of the chunk is read, and its tag told.
use Rattle.std.proofs.Common.{[], sym, subst, ◌∙◌}
use Rattle.std.proofs.lemmas.List.{take_rest}
use Rattle.std.proofs.lemmas.Result.{err_from_is_err_and}
use Rattle.lol_page.specs.PageRefusals.{Refuses}
use Rattle.lol_page.proofs.More.{read_part, found_part}
use Rattle.lol_page.proofs.Plain.{part-within}
use Rattle.lol_page.proofs.Telling.{none_read}
use Rattle.lol_page.proofs.page.Page.next_match.Goals as goal

pub returns-in_err-read-clause-refused : goal.returns-in_err-read-clause-refused
returns-in_err-read-clause-refused g c =
    let q = c.loop-i.self in
    let before = c.loop-i.invariant in
    let p = err_from_is_err_and c.from_residual.result c.from_residual.ensures.1 in
    rw (p.1, p.2) (λ _. record {
      taken = c.loop-i.i;
      within = before.within;
      before = q;
      read = before.read;
      unreported = before.none;
      refused = subst (Refuses c.in_err-read.field-0.0 q) (take_rest c.args.chunk.now c.loop-i.i) (c.in_err-read.ensures.refused before.goes_on);
      untold = c.in_err-read.ensures.untold;
    })

pub returns-then-is_some-clause-read : goal.returns-then-is_some-clause-read
returns-then-is_some-clause-read g c =
    read_part c.args.self.now c.loop-i.self c.args.chunk.now c.loop-i.i c.in_ok-read.read.taken c.loop-i.invariant.read c.step.new.self c.in_ok-read.ensures.read

pub returns-then-is_some-clause-found : goal.returns-then-is_some-clause-found
returns-then-is_some-clause-found g c =
    let before = c.loop-i.invariant in
    found_part c.args.self.now c.loop-i.self c.args.chunk.now c.loop-i.i c.in_ok-read.read.taken before.read _ before.none c.in_ok-read.ensures.found

pub loop-i-preserved : goal.loop-i-preserved
loop-i-preserved g c =
    let p = c.args.self.now in
    let q = c.loop-i.self in
    let s = c.args.chunk.now in
    let i = c.loop-i.i in
    let read = c.in_ok-read.read in
    let before = c.loop-i.invariant in
    let now = c.in_ok-read.ensures in
    record {
      within = part-within s i read.taken before.within now.within;
      goes_on = now.goes_on;
      read = read_part p q s i read.taken before.read c.step.new.self now.read;
      none = sym (found_part p q s i read.taken before.read [] before.none (sym (none_read c.step.new.self.reader.text c.step.new.self.matcher.matched read.tag (sym c.is_some.ensures ∙ c.if-is_some.false)) ∙ now.found));
    }
