use Rattle.std.proofs.Common.{rules}
use Rattle.lol_stack.proofs.name_map.NameMap.search.Goals as goal

pub returns-then-is_named-clause-place : goal.returns-then-is_named-clause-place
returns-then-is_named-clause-place c = search rules
