use Rattle.lol_stack.specs.SoundLaws.{ends_at_last}
use Rattle.lol_stack.proofs.stack_laws.ends_close_the_last_of_their_name.Goals as goal

pub returns : goal.returns
returns g c = ends_at_last
