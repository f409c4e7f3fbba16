use Rattle.std.proofs.Common.{rules}
use Rattle.lol_css.specs.Reading.{attribute_name}
use Rattle.lol_css.specs.Rules.{required_token}
use Rattle.lol_css.proofs.selectors.attributes.attribute_name.Goals as goal

pub returns-in_ok-bar-in-Delim-eq42 : goal.returns-in_ok-bar-in-Delim-eq42
unfolding attribute_name required_token
returns-in_ok-bar-in-Delim-eq42 c = search rules
