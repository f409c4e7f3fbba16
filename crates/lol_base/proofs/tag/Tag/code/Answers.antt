use Rattle.std.proofs.Common.{rules}
use Rattle.lol_base.specs.LocalNames.{name_code}
use Rattle.lol_base.proofs.tag.Tag.code.Goals as goal

pub returns-in-Br : goal.returns-in-Br
unfolding name_code
returns-in-Br c = search rules
