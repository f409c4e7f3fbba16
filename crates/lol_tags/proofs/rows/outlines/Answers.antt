use Rattle.std.proofs.Common.{refl}
use Rattle.lol_tags.specs.States.{next}
use Rattle.lol_tags.specs.Attributes.{is_attribute_name, is_quoted, is_value, is_in_attribute, attribute_step, attribute_ended}
use Rattle.lol_tags.proofs.rows.outlines.Goals as goal

pub returns : goal.returns
unfolding next is_attribute_name is_quoted is_value is_in_attribute attribute_step attribute_ended
returns c = refl
