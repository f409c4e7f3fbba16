-- A start tag is told with the attributes of its own bytes.
use Rattle.std.proofs.Common.{◌≡◌, ℕ, List, [], ◌∷◌, Option, None, Err, sym, ap, subst, ◌∙◌}
use Rattle.std.proofs.lemmas.List.{append-nil}
use Rattle.lol_base.specs.StartTags.{StartTag, attributes_of}
use Rattle.lol_base.specs.declared.namespace.Namespace.{Namespace}
use Rattle.lol_machine.specs.Answers.{answer, document}
use Rattle.lol_machine.specs.Events.{Start}
use Rattle.lol_machine.specs.Views.{selectors}
use Rattle.lol_matcher.specs.Last.{matches_in}
use Rattle.lol_matcher.specs.Noted.{handed_told}
use Rattle.lol_matcher.specs.Refusing.{refusal_of}
use Rattle.lol_matcher.specs.Told.{Matching, Told, heard}
use Rattle.lol_page.specs.Pages.{events_by, written_name, written_start}
use Rattle.lol_page.specs.PageMatches.{HearsOn, answers_told, matched_of}
use Rattle.lol_page.specs.PageRefusals.{FitsTag, RefusesStart, RefusesTag}
use Rattle.lol_page.specs.declared.error.PageError.TheVariants.{Matcher}
use Rattle.lol_page.proofs.Telling.{refuses_start, written_is}
use Rattle.lol_page.proofs.page.Page.tell.Goals as goal

pub returns-in_default-clause-closed : goal.returns-in_default-clause-closed
returns-in_default-clause-closed g c =
    let m = c.args.self.now.matcher in
    let tag = c.args.placed.now.tag in
    let name : c.name-name.result.now ≡ written_name c.args.self.now.reader.text tag =
    c.name-name.ensures ∙ ap (λ (x : List ℕ). written_name x tag) c.text-text.ensures in
    rw (c.in_default.is, ← name) c.end_with.ensures.called

pub returns-in-Ok-start_with-clause-told : goal.returns-in-Ok-start_with-clause-told
returns-in-Ok-start_with-clause-told g c =
    let t = c.args.self.now.matcher.told in
    let tag = c.args.placed.now.tag in
    let text = c.args.self.now.reader.text in
    let decoded = c.args.self.now.reader.page.decoded in
    let ns = c.in-Some.namespace in
    let is : c.start_with.new.self.told ≡ handed_told t (written_start decoded text tag ns) =
    ap (λ (m : Matching g.row.T.Denot). m.told) c.in-Ok-start_with.ensures.ok
    ∙ ap (handed_told t) (written_is decoded c.is_decoded-decoded.result text c.text-text.result.now c.name-name.result.now tag ns c.name_end.result
    (attributes_of c.aux_info-aux_info.result) c.aux_info-aux_info.result.self_closing
    c.is_decoded-decoded.ensures c.text-text.ensures c.name-name.ensures c.name_end.ensures
    (c.aux_info-aux_info.ensures.attributes ∙ c.in-Ok.ensures.read) c.aux_info-aux_info.ensures.self_closing) in
    let on : HearsOn t c.start_with.new.self.told (Start (written_start decoded text tag ns) ∷ []) = record {
      ast = ap (λ (t : Told). t.ast) is;
      esi = ap (λ (t : Told). t.esi) is;
      heard_is = ap heard is;
    } in
    subst (λ (o : Option Namespace). HearsOn t c.start_with.new.self.told (events_by decoded text tag o)) (sym c.in-Some.is) on

pub returns-in-Ok-start_with-clause-matched : goal.returns-in-Ok-start_with-clause-matched
returns-in-Ok-start_with-clause-matched g c =
    let t = c.args.self.now.matcher.told in
    let tag = c.args.placed.now.tag in
    let text = c.args.self.now.reader.text in
    let decoded = c.args.self.now.reader.page.decoded in
    let ns = c.in-Some.namespace in
    let of_tag = λ (x : StartTag). matches_in (answer (selectors t.ast) t.esi (document (selectors t.ast) t.esi (heard t)) (Start x)) in
    sym (ap matches_in c.in-Ok-start_with.ensures.answered)
    ∙ ap of_tag (written_is decoded c.is_decoded-decoded.result text c.text-text.result.now c.name-name.result.now tag ns c.name_end.result
    (attributes_of c.aux_info-aux_info.result) c.aux_info-aux_info.result.self_closing
    c.is_decoded-decoded.ensures c.text-text.ensures c.name-name.ensures c.name_end.ensures
    (c.aux_info-aux_info.ensures.attributes ∙ c.in-Ok.ensures.read) c.aux_info-aux_info.ensures.self_closing)
    ∙ sym (append-nil (of_tag (written_start decoded text tag ns)))
    ∙ ap (λ (o : Option Namespace). matched_of (answers_told t (events_by decoded text tag o))) (sym c.in-Some.is)

pub returns-in-Ok-start_with-clause-fits : goal.returns-in-Ok-start_with-clause-fits
returns-in-Ok-start_with-clause-fits g c =
    let m = c.args.self.now.matcher in
    let tag = c.args.placed.now.tag in
    let text = c.args.self.now.reader.text in
    let decoded = c.args.self.now.reader.page.decoded in
    let ns = c.in-Some.namespace in
    let fits : refusal_of m (heard m.told) (written_start decoded text tag ns) ≡ None =
    ap (refusal_of m (heard m.told)) (sym (written_is decoded c.is_decoded-decoded.result text c.text-text.result.now c.name-name.result.now tag ns c.name_end.result
    (attributes_of c.aux_info-aux_info.result) c.aux_info-aux_info.result.self_closing
    c.is_decoded-decoded.ensures c.text-text.ensures c.name-name.ensures c.name_end.ensures
    (c.aux_info-aux_info.ensures.attributes ∙ c.in-Ok.ensures.read) c.aux_info-aux_info.ensures.self_closing)) ∙ c.in-Ok-start_with.ensures.fits in
    subst (FitsTag decoded m text tag) (sym c.in-Some.is) fits

pub returns-in-Err-clause-refused : goal.returns-in-Err-clause-refused
returns-in-Err-clause-refused g c =
    let m = c.args.self.now.matcher in
    let tag = c.args.placed.now.tag in
    let text = c.args.self.now.reader.text in
    let decoded = c.args.self.now.reader.page.decoded in
    let ns = c.in-Some.namespace in
    let error = c.in-Err.error in
    let refused = refuses_start m _ error (λ e. c.start_with.ensures.failed.0 (c.in-Err.is ∙ ap Err e)) (λ e. c.start_with.ensures.asked (c.in-Err.is ∙ ap Err e))
    (λ e. (c.start_with.ensures.outside.0 (c.in-Err.is ∙ ap Err e)).1 c.aux_info-aux_info.ensures.inside) c.in-Err.ensures.refused in
    let written : RefusesStart error m (written_start decoded text tag ns) =
    subst (RefusesStart error m) (written_is decoded c.is_decoded-decoded.result text c.text-text.result.now c.name-name.result.now tag ns c.name_end.result
    (attributes_of c.aux_info-aux_info.result) c.aux_info-aux_info.result.self_closing
    c.is_decoded-decoded.ensures c.text-text.ensures c.name-name.ensures c.name_end.ensures
    (c.aux_info-aux_info.ensures.attributes ∙ c.in-Ok.ensures.read) c.aux_info-aux_info.ensures.self_closing) refused in
    subst (RefusesTag decoded (Matcher error) m text tag) (sym c.in-Some.is) written
