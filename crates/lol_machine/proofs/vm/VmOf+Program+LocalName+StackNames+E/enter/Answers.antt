use Rattle.lol_machine.proofs.Common.{rules, refl}
use Rattle.lol_machine.specs.CallCharges.{charges_none}
use Rattle.lol_machine.proofs.Charging.{charges_pushed}
use Rattle.lol_machine.proofs.VmRefusals.{alike_opens_nothing, on_err_both}
use Rattle.lol_machine.proofs.vm.VmOf+Program+LocalName+StackNames+E.enter.Goals as goal

pub returns-clause-ok : goal.returns-clause-ok
returns-clause-ok g c = search rules

pub returns-then-not-ctx-clause-charges : goal.returns-then-not-ctx-clause-charges
returns-then-not-ctx-clause-charges g c = charges_none c.args.self.now _ c.args.limiter.now _ refl refl refl

pub returns-clause-charges : goal.returns-clause-charges
returns-clause-charges g c =
    let told = c.push_item-pushed.ensures in
    charges_pushed c.push_item-pushed.result c.args.self.now _ _ c.args.limiter.now c.push_item-pushed.new.limiter told.ok told.err told.charged told.err_limiter

pub returns-clause-left : goal.returns-clause-left
returns-clause-left g c =
    let told = c.push_item-pushed.ensures in
    on_err_both c.push_item-pushed.result (λ alike uncharged. alike_opens_nothing c.args.self.now _ alike refl uncharged) told.err told.err_limiter

pub returns-clause-refused : goal.returns-clause-refused
returns-clause-refused c = search rules
