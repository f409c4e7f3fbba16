use Rattle.lol_machine.proofs.Common.{refl, ap, ◌∙◌, ◌||◌}
use Rattle.lol_program.specs.Asts.{is_with_rows}
use Rattle.lol_machine.proofs.VmRefusals.{new_vm_stands}
use Rattle.lol_machine.proofs.vm.VmOf+Program+LocalName+StackNames+E.new.Goals as goal

pub returns-clause-stands : goal.returns-clause-stands
returns-clause-stands g c =
    let made = c.new-stack.ensures in
    new_vm_stands c.args.ast c.in_ok-program.program c.new-stack.result _ c.args.enable_esi_tags c.args.item_bytes (c.in_ok-program.ensures.program (is_with_rows c.args.ast))
    (record { items = made.items; root = made.root; active = made.active; typed = made.typed }) made.depths refl refl refl refl
    (record { mode = c.in_ok-program.ensures.mode ∙ ap (λ b. b || is_with_rows c.args.ast) c.new.ensures.rows; rows = c.in_ok-program.ensures.rows; room = c.in_ok-space.ensures.room; size = c.in_ok-space.ensures.size })
