use Rattle.std.proofs.Common.{◌≡◌, Bool, Err, inl, true, true≢false, refl, sym, ap, ◌∙◌}
use Rattle.std.proofs.lemmas.Result.{IfErr-weaker, IfOk-weaker}
use Rattle.lol_base.specs.StartTags.{StartTag}
use Rattle.lol_machine.specs.Events.{Start}
use Rattle.lol_machine.specs.Views.{tag_of}
use Rattle.lol_matcher.specs.Noted.{handed_told}
use Rattle.lol_vm.specs.ToldEvents.{reported_as}
use Rattle.lol_vm.proofs.ToldOn.{answered_as, answered_memory, fits_as, refusal_is, refused_handed, told_with}
use Rattle.lol_vm.proofs.run.answer_start.Goals as goal

pub returns-in-Ok-clause-answers : goal.returns-in-Ok-clause-answers
returns-in-Ok-clause-answers c =
    IfOk-weaker c.report_of.result _ _ (λ report is ast esi a events w few.
    let m = c.args.matcher.now in
    let laws = c.calls_answer_alike.ensures in
    let tag : StartTag = tag_of c.args.name.now c.args.ns c.args.aux_info true in
    let none = fits_as laws.alike laws.goes_on ast esi a events m w tag c.in-Ok.ensures.fits in
    record {
      answered = is ∙ (ap (λ b. reported_as b c.start_with.new.self) c.in-Ok.ensures.was_asked ∙ answered_as laws.alike laws.goes_on ast esi a events m w (Start tag) _ c.in-Ok.ensures.answered);
      goes_on = told_with laws.alike laws.goes_on ast esi a events m w (Start tag) (Start tag) (inl refl) none c.start_with.new.self (handed_told m.told tag) c.in-Ok.ensures.ok refl refl refl;
    }) c.report_of.ensures.report

pub returns-in-Ok-clause-refused : goal.returns-in-Ok-clause-refused
returns-in-Ok-clause-refused c =
    IfErr-weaker c.report_of.result _ _ (λ error is ast esi a events w few.
    let laws = c.calls_answer_alike.ensures in
    let none = fits_as laws.alike laws.goes_on ast esi a events c.args.matcher.now w (tag_of c.args.name.now c.args.ns c.args.aux_info true) c.in-Ok.ensures.fits in
    rw is (answered_memory _ _ none)) c.report_of.ensures.memory

pub returns-in-Err-clause-refused : goal.returns-in-Err-clause-refused
returns-in-Err-clause-refused c = λ ast esi a events w few.
    let laws = c.calls_answer_alike.ensures in
    let call = c.start_with.ensures in
    let refusal = refusal_is c.in-Err.error
    (λ is. true≢false (sym (call.failed.0 (c.in-Err.is ∙ ap Err is)) ∙ w.well))
    (λ is. (call.outside.0 (c.in-Err.is ∙ ap Err is)).1 c.requires)
    (λ is. call.asked (c.in-Err.is ∙ ap Err is)) in
    refused_handed laws.alike laws.goes_on ast esi a events c.args.matcher.now w (tag_of c.args.name.now c.args.ns c.args.aux_info true) c.in-Err.error (c.in-Err.ensures.refused refusal)
