use Rattle.std.proofs.Common.{refl}
use Rattle.lol_tags.specs.States.{next, next_in_script, is_in_tag, is_self_closing}
use Rattle.lol_tags.specs.Reading.{noted, step, ended}
use Rattle.lol_tags.proofs.rows.scripting.Goals as goal

pub returns-clause-runs : goal.returns-clause-runs
unfolding next next_in_script is_in_tag is_self_closing noted step ended
returns-clause-runs c = refl

pub returns-clause-runs_not : goal.returns-clause-runs_not
unfolding next next_in_script is_in_tag is_self_closing noted step ended
returns-clause-runs_not c = refl
