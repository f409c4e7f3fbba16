use Rattle.std.proofs.Common.{length, take, sym, ap, ◌∙◌, subst}
use Rattle.std.specs.Prelude.{min}
use Rattle.std.proofs.lemmas.Result.{IfOk-weaker}
use Rattle.lol_program.specs.ProgramViews.{program_shown}
use Rattle.lol_program.specs.declared.program.Program.{Program}
use Rattle.lol_stack.specs.Stacks.{items_in}
use Rattle.lol_machine.specs.Answers.{document, matching_ids}
use Rattle.lol_machine.specs.Documents.{element_of}
use Rattle.lol_machine.specs.Events.{has_content}
use Rattle.lol_machine.specs.Answers.{opens}
use Rattle.lol_machine.specs.Machines.{items_shown}
use Rattle.lol_machine.specs.Vms.{program_in, stack_in}
use Rattle.lol_reasons.specs.Matched.{IsAround}
use Rattle.lol_reasons.proofs.Reasons.{ids_of_matches}
use Rattle.lol_reasons.proofs.Telling.{around_is}
use Rattle.lol_reasons.proofs.explainer.Explainer.reasons.Goals as goal

pub returns : goal.returns
returns g c = IfOk-weaker c.reasons_inside.result _ _ (λ told inside texts s esi events tag known has reported.
    let d = document s esi events in
    let e = element_of d tag in
    let items = items_in (stack_in c.args.vm.now) in
    let around = c.machines_show_around.ensures s esi c.args.vm.now events tag c.args.numbers.now reported.stands reported.numbers_are in
    let first = around_is (opens s esi events tag) s around.0 (program_shown (program_in c.args.vm.now)) items c.args.numbers.now d.open_elements around.1 in
    inside texts s around.0 e d.open_elements
    (record { known = known; items = has; ids_are = reported.ids_are ∙ ids_of_matches (matching_ids s.pairs e d.open_elements) (has_content esi e.tag) })
    (subst (λ (p : Program). IsAround s around.0 (program_shown p) (items_shown (take c.min.result c.open_items-open.result.now)) c.args.numbers.now d.open_elements) (sym c.program.ensures)
    (subst (λ l. IsAround s around.0 (program_shown (program_in c.args.vm.now)) (items_shown l) c.args.numbers.now d.open_elements)
    (sym (ap (λ k. take k c.open_items-open.result.now) c.min.ensures ∙ ap (λ l. take (min (length c.args.numbers.now) (length l)) l) c.open_items-open.ensures)) first))
    reported.number_is) c.reasons_inside.ensures
