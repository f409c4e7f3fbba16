use Rattle.std.proofs.Common.{◌≡◌, ◌+◌, length}
use Rattle.lol_memory.specs.Ids.{ascending}
use Rattle.lol_machine.proofs.vm.count_ids.Given as goal

abbrev pub invariant-loop-id : goal.invariant-loop-id
invariant-loop-id l = l.count + length l._id-iterator ≡ length (ascending l.ids)
