use Rattle.std.proofs.Common.{◌≡◌, ◌-◌, length}
use Rattle.lol_stack.specs.NameMaps.{in_slot}
use Rattle.lol_stack.proofs.name_map.make_slots.Given as goal

abbrev pub invariant-loop-slots : goal.invariant-loop-slots
invariant-loop-slots g l = record {
  kept : (slot : _) → in_slot l.slots.items slot ≡ in_slot l.initial.slots.items slot;
}

abbrev pub decreases-loop-slots : goal.decreases-loop-slots
decreases-loop-slots g l = 64 - length l.slots.items
