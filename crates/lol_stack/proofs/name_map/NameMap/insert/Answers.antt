use Rattle.std.proofs.Common.{rules}
use Rattle.lol_stack.proofs.name_map.NameMap.insert.Goals as goal

pub returns-in_ok-make_slots-in-Slot-clause-ok : goal.returns-in_ok-make_slots-in-Slot-clause-ok
returns-in_ok-make_slots-in-Slot-clause-ok c = search rules
