use Rattle.std.proofs.Common.{refl}
use Rattle.lol_base.specs.Names.{void_names}
use Rattle.lol_tags.specs.Attributes.{is_attribute_name, is_quoted, is_value, is_in_attribute, attribute_step, attribute_ended}
use Rattle.lol_tags.specs.Reading.{noted, step, ended}
use Rattle.lol_tags.specs.States.{next, next_in_script, is_in_tag, is_self_closing}
use Rattle.lol_page.specs.Ambiguity.{text_tags}
use Rattle.lol_page.specs.Namespaces.{svg_points, text_points, breakouts}
use Rattle.lol_page.specs.Pages.{page_step, page_ended}
use Rattle.lol_page.specs.Positions.{moved_by}
use Rattle.lol_page.proofs.rows.selects.Goals as goal

pub returns : goal.returns
unfolding next next_in_script is_in_tag is_self_closing noted step ended is_attribute_name is_quoted is_value is_in_attribute attribute_step attribute_ended page_step page_ended moved_by svg_points text_points breakouts void_names text_tags
returns c = record { with_scripts = refl; without_scripts = refl }
