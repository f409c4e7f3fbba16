use Rattle.std.proofs.Common.{rules}
use Rattle.lol_stack.proofs.directive.directive_of.Goals as goal

pub returns-then-is_esi : goal.returns-then-is_esi
returns-then-is_esi c = search rules

pub returns-then-ne : goal.returns-then-ne
returns-then-ne c = search rules
