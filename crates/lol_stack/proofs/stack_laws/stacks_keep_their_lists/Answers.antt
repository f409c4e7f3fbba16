use Rattle.lol_stack.specs.SoundLaws.{new_is_sound, counting_keeps_sound, opening_keeps_sound, closing_keeps_sound, same_is_sound, data_keep_sound}
use Rattle.lol_stack.proofs.stack_laws.stacks_keep_their_lists.Goals as goal

pub returns-clause-new : goal.returns-clause-new
returns-clause-new g c = new_is_sound

pub returns-clause-counting : goal.returns-clause-counting
returns-clause-counting g c = counting_keeps_sound

pub returns-clause-opening : goal.returns-clause-opening
returns-clause-opening g c = opening_keeps_sound

pub returns-clause-closing : goal.returns-clause-closing
returns-clause-closing g c = closing_keeps_sound

pub returns-clause-same : goal.returns-clause-same
returns-clause-same g c = same_is_sound

pub returns-clause-lending : goal.returns-clause-lending
returns-clause-lending g c = data_keep_sound
