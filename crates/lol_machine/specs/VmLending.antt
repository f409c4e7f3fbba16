-- What a machine ends as, where the data of its last element are lent.
use Rattle.std.specs.Prelude.{Option}
use Rattle.std.specs.Borrow.{LendsIf, RattleType, MutBor, Fml}
use Rattle.lol_stack.specs.StackLending.{with_current}
use Rattle.lol_machine.specs.declared.vm.VmOf.{VmOf}
use Rattle.lol_machine.specs.contracts.vm.VmOf.{the_row as vm_row}

-- the machine, with other data of its last element
abbrev pub with_current_in : {P N M E : Type 0} → VmOf P N M E → E → VmOf P N M E
with_current_in vm w = record vm { stack = with_current vm.stack w }

-- once the borrow r ends, the last element has the data that r shows last
abbrev pub lends_current_of_vm : (P N M E : RattleType) → MutBor (VmOf P.Denot N.Denot M.Denot E.Denot) → Option (MutBor E.Denot) → Fml
lends_current_of_vm P N M E vm r = LendsIf (vm_row P N M E) E vm r (with_current_in vm.now) vm.now
