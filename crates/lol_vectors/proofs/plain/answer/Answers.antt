use Rattle.std.proofs.Common.{false, ap, sym, ◌∙◌}
use Rattle.std.proofs.lemmas.Result.{on_ok_weaker, IfOk-weaker}
use Rattle.lol_machine.specs.Answers as answers
use Rattle.lol_vm.specs.TagEvents.{event_of}
use Rattle.lol_vectors.specs.PlainNodes.{selectors_shown}
use Rattle.lol_vectors.specs.Plain.{document_shown, start_answer, started}
use Rattle.lol_vectors.proofs.plain.answer.Goals as goal

pub returns-in_ok-element-in-Start-clause-answer : goal.returns-in_ok-element-in-Start-clause-answer
returns-in_ok-element-in-Start-clause-answer c =
    let s = selectors_shown false c.args.nodes.now in
    let esi = c.args.enable_esi_tags in
    let d = document_shown c.args.number c.args.document.now in
    IfOk-weaker c.start.result _ _
    (λ told shown. shown ∙ ap (λ e. start_answer s esi e d.open_elements) c.in_ok-element-in-Start.ensures ∙ sym (ap (λ event. answers.answer s esi d (event_of event)) c.in-Start.is))
    c.start.ensures.answer

pub returns-in_ok-element-in-Start-clause-document : goal.returns-in_ok-element-in-Start-clause-document
returns-in_ok-element-in-Start-clause-document c =
    let s = selectors_shown false c.args.nodes.now in
    let esi = c.args.enable_esi_tags in
    let d = document_shown c.args.number c.args.document.now in
    on_ok_weaker c.start.result
    (λ told. told c.args.number ∙ ap (started s esi d) c.in_ok-element-in-Start.ensures ∙ sym (ap (λ event. answers.after s esi d (event_of event)) c.in-Start.is))
    c.start.ensures.document

pub returns-in_ok-closed-in-End-clause-answer : goal.returns-in_ok-closed-in-End-clause-answer
returns-in_ok-closed-in-End-clause-answer c =
    let s = selectors_shown false c.args.nodes.now in
    let esi = c.args.enable_esi_tags in
    let d = document_shown c.args.number c.args.document.now in
    ap answers.Ended (c.in_ok-closed-in-End.ensures.closed c.args.number) ∙ sym (ap (λ event. answers.answer s esi d (event_of event)) c.in-End.is)

pub returns-in_ok-closed-in-End-clause-document : goal.returns-in_ok-closed-in-End-clause-document
returns-in_ok-closed-in-End-clause-document c =
    let s = selectors_shown false c.args.nodes.now in
    let esi = c.args.enable_esi_tags in
    let d = document_shown c.args.number c.args.document.now in
    c.in_ok-closed-in-End.ensures.document c.args.number ∙ sym (ap (λ event. answers.after s esi d (event_of event)) c.in-End.is)
