use Rattle.std.proofs.Common.{◌≡◌, ◌≤◌, length, take}
use Rattle.lol_machine.specs.Machines.{items_shown}
use Rattle.lol_reasons.specs.Climbing.{nearest_giving}
use Rattle.lol_reasons.proofs.witness.nearest_element.Given as goal

-- none of the elements further in gives the address
abbrev pub invariant-loop-left : goal.invariant-loop-left
invariant-loop-left g l =
    record {
      within : l.left ≤ length l.outer;
      passed : nearest_giving l.address (items_shown l.outer) ≡ nearest_giving l.address (items_shown (take l.left l.outer));
    }

abbrev pub decreases-loop-left : goal.decreases-loop-left
decreases-loop-left g l = l.left
