use Rattle.std.proofs.Common.{◌≡◌, Bool, [], Option, None, Some, IfNone, length, take, sym, ap, subst, ◌∙◌}
use Rattle.std.proofs.lemmas.Result.{err_from_is_err_and}
use Rattle.lol_tags.specs.Runs.{with_some}
use Rattle.lol_page.specs.Pages.{page_tags_from}
use Rattle.lol_page.specs.Readings.{Reading, tag_read, with_text}
use Rattle.lol_page.specs.declared.page_reader.PlacedTag.{PlacedTag}
use Rattle.lol_page.specs.PageRefusals.{FitsTag, RefusesTag}
use Rattle.lol_page.specs.declared.page.Page.{Page}
use Rattle.lol_page.proofs.Telling.{closes_none, closes_some, fits_first, fits_none, has_room, refuses_first}
use Rattle.lol_page.proofs.page.Page.next_tag.Goals.{in-Some+in_ok-tell, in_default}
use Rattle.lol_page.proofs.page.Page.next_tag.Goals as goal

pub returns-in_err-tell-clause-refused : goal.returns-in_err-tell-clause-refused
returns-in_err-tell-clause-refused g c =
    let text = c.next.new.self.text in
    let placed = c.in-Some.placed in
    let p = err_from_is_err_and c.from_residual.result c.from_residual.ensures.1 in
    rw (p.1, p.2) (λ _. refuses_first c.in_err-tell.field-0.0 c.args.self.now c.args.chunk.now c.in-Ok.read.taken (with_text text placed)
    (ap (λ (o : Option PlacedTag). with_some (tag_read text o) []) (sym c.in-Some.is) ∙ c.in-Ok.ensures.tags)
    (subst (λ (d : Bool). RefusesTag d c.in_err-tell.field-0.0 c.args.self.now.matcher text placed.tag placed.namespace) c.in-Ok.ensures.decoded c.in_err-tell.ensures.refused))

pub returns-clause-closed : goal.returns-clause-closed
returns-clause-closed g c =
    let m = c.args.self.now.matcher in
    let f = c.args.handler.now in
    let now = c.match-read in
    elim c.match-read.branch [
      | in-Some+in_ok-tell w ↦ closes_some (goal.F-step g) f m w.tell.new.handler now.handler now.self.reader.text c.next.new.self.text c.in-Ok.read.tag w.in-Some.placed w.handler-is
          (ap (λ (p : Page g.row.T.Denot). p.reader.text) w.self-is ∙ ap (λ (r : Reading). r.text) w.tell.ensures.reader) w.in-Some.is w.in_ok-tell.ensures.closed
      | in_default w ↦ closes_none (goal.F-step g) f m now.handler now.self.reader.text c.in-Ok.read.tag w.handler-is w.in_default.is
    ]

pub returns-clause-accepted : goal.returns-clause-accepted
returns-clause-accepted g c =
    let p = c.args.self.now.reader.page in
    let bytes = c.args.chunk.now in
    let read = c.in-Ok.read in
    let text = c.next.new.self.text in
    let given : (o : Option PlacedTag) → read.tag ≡ o → with_some (tag_read text o) [] ≡ page_tags_from p (take read.taken bytes) =
    λ o is. ap (λ (o : Option PlacedTag). with_some (tag_read text o) []) (sym is) ∙ c.in-Ok.ensures.tags in
    record {
      room = has_room c.args.self.now.reader.failed _ (λ e. let is = c.next.ensures.failed.1 e in cc (is, c.in-Ok.is)) (λ e. let is = c.next.ensures.page_too_long.1 e in cc (is, c.in-Ok.is));
      short = c.in-Ok.ensures.short;
      clear = c.in-Ok.ensures.clear;
      fits = elim c.match-read.branch [
        | in-Some+in_ok-tell w ↦ fits_first p.decoded c.args.self.now.matcher p bytes read.taken (with_text text w.in-Some.placed) (given (Some w.in-Some.placed) w.in-Some.is)
            (subst (λ (d : Bool). FitsTag d c.args.self.now.matcher text w.in-Some.placed.tag w.in-Some.placed.namespace) c.in-Ok.ensures.decoded w.in_ok-tell.ensures.fits)
        | in_default w ↦ fits_none p.decoded c.args.self.now.matcher p bytes read.taken (given None w.in_default.is) (subst (λ (o : Option PlacedTag). IfNone o (read.taken ≡ length bytes)) w.in_default.is c.in-Ok.ensures.whole)
      ];
    }
