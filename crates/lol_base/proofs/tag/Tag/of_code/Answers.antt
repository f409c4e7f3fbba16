use Rattle.std.proofs.Common.{rules}
use Rattle.lol_base.specs.LocalNames.{name_code}
use Rattle.lol_base.proofs.tag.Tag.of_code.Goals as goal

pub returns-in-26974480-clause-none : goal.returns-in-26974480-clause-none
unfolding name_code
returns-in-26974480-clause-none c = search rules
