use Rattle.std.proofs.Common.{◌≡◌, ◌-◌, Some, None, length, sym, ap, ◌∙◌}
use Rattle.std.specs.Prelude.{slice_get}
use Rattle.std.specs.Option.{option_copied_mut}
use Rattle.lol_machine.specs.Vms.{data_in}
use Rattle.lol_matcher.specs.declared.open_element.OpenElement.{OpenElement}
use Rattle.lol_matcher.proofs.Opened.{change_last_is}
use Rattle.lol_matcher.proofs.tags.number_last.Goals as goal

pub returns-in-Some-clause-changed : goal.returns-in-Some-clause-changed
returns-in-Some-clause-changed g c =
    let kept = data_in c.args.vm.now in
    let here : slice_get kept (length kept - 1) ≡ Some c.in-Some.element.now = sym (ap option_copied_mut (sym c.in-Some.is) ∙ (c.current_element_data_mut.ensures.value ∙ c.data_laws.ensures.lent c.args.vm.now)) in
    c.data_laws.ensures.changed c.args.vm.now _ ∙ change_last_is (λ (e : OpenElement _). record e { number = c.args.number; value = None }) kept c.in-Some.element.now here
