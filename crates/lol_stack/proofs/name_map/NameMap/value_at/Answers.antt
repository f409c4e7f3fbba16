use Rattle.std.proofs.Common.{rules}
use Rattle.lol_stack.proofs.name_map.NameMap.value_at.Goals as goal

pub returns-in_ok-value-in-Slot : goal.returns-in_ok-value-in-Slot
returns-in_ok-value-in-Slot c = search rules
