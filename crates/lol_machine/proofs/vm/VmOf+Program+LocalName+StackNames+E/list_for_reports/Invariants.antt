-- the ids of the instructions so far
use Rattle.std.proofs.Common.{◌≡◌, length, take}
use Rattle.std.specs.List.{sum_by}
use Rattle.lol_memory.specs.Ids.{ascending}
use Rattle.lol_machine.proofs.vm.VmOf+Program+LocalName+StackNames+E.list_for_reports.Given as goal

abbrev pub invariant-loop-instruction : goal.invariant-loop-instruction
invariant-loop-instruction g l = l.count ≡ sum_by (λ i. length (ascending i.associated_branch.matched_ids)) (take l.instruction-index l.instruction-items)
