use Rattle.std.proofs.Common.{refl}
use Rattle.lol_tags.specs.States.{next, next_in_script, is_in_tag, is_self_closing}
use Rattle.lol_tags.specs.Reading.{noted, step, ended}
use Rattle.lol_tags.proofs.rows.foreign_content.Goals as goal

pub returns-clause-sections : goal.returns-clause-sections
unfolding next next_in_script is_in_tag is_self_closing noted step ended
returns-clause-sections c = refl

pub returns-clause-texts : goal.returns-clause-texts
unfolding next next_in_script is_in_tag is_self_closing noted step ended
returns-clause-texts c = refl
