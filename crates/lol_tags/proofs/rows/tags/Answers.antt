use Rattle.std.proofs.Common.{refl}
use Rattle.lol_tags.specs.States.{next, next_in_script, is_in_tag, is_self_closing}
use Rattle.lol_tags.specs.Reading.{noted, step, ended}
use Rattle.lol_tags.proofs.rows.tags.Goals as goal

pub returns : goal.returns
unfolding next next_in_script is_in_tag is_self_closing noted step ended
returns c = refl
