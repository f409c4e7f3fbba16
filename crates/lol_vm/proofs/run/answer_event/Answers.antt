use Rattle.std.proofs.Common.{◌≡◌, ap, sym, subst, ◌∙◌, refl, true, false}
use Rattle.std.proofs.lemmas.Result.{IfOk-weaker}
use Rattle.lol_machine.specs.Events.{Start}
use Rattle.lol_machine.specs.Views.{tag_of}
use Rattle.lol_vm.specs.TagEvents.{event_of}
use Rattle.lol_vm.specs.ToldEvents.{AnswersOne}
use Rattle.lol_vm.proofs.run.answer_event.Goals as goal

pub returns-then-finish-clause-answers : goal.returns-then-finish-clause-answers
returns-then-finish-clause-answers c =
    let is = ap event_of c.in-Start.is ∙ ap (λ finish. Start (tag_of c.in-Start.name.now c.in-Start.ns c.in-Start.aux_info finish)) c.if-finish.true in
    IfOk-weaker c.answer_start.result _ _ (λ report h ast esi a events w few.
    subst (λ event. AnswersOne ast esi a events event report c.answer_start.new.matcher) (sym is) (h ast esi a events w few)) c.answer_start.ensures.answers

pub returns-else-finish-clause-answers : goal.returns-else-finish-clause-answers
returns-else-finish-clause-answers c =
    let is = ap event_of c.in-Start.is ∙ ap (λ finish. Start (tag_of c.in-Start.name.now c.in-Start.ns c.in-Start.aux_info finish)) c.if-finish.false in
    IfOk-weaker c.answer_unfinished.result _ _ (λ report h ast esi a events w few.
    subst (λ event. AnswersOne ast esi a events event report c.answer_unfinished.new.matcher) (sym is)
    (h ast esi a events w few (tag_of c.in-Start.name.now c.in-Start.ns c.in-Start.aux_info false) refl refl refl)) c.answer_unfinished.ensures.answers
