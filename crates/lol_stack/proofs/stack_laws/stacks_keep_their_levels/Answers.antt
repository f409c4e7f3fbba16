use Rattle.lol_stack.proofs.StackLevels.{new_has_levels, counting_keeps_levels, opening_keeps_levels, closing_keeps_levels, same_has_levels, data_keep_levels}
use Rattle.lol_stack.proofs.stack_laws.stacks_keep_their_levels.Goals as goal

pub returns-clause-new : goal.returns-clause-new
returns-clause-new g c = new_has_levels

pub returns-clause-counting : goal.returns-clause-counting
returns-clause-counting g c = counting_keeps_levels

pub returns-clause-opening : goal.returns-clause-opening
returns-clause-opening g c = opening_keeps_levels

pub returns-clause-closing : goal.returns-clause-closing
returns-clause-closing g c = closing_keeps_levels

pub returns-clause-same : goal.returns-clause-same
returns-clause-same g c = same_has_levels

pub returns-clause-lending : goal.returns-clause-lending
returns-clause-lending g c = data_keep_levels
