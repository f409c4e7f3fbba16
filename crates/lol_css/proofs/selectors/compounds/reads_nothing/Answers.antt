use Rattle.std.proofs.Common.{◌∙◌}
use Rattle.lol_css.proofs.TreeRows.{compound-empty}
use Rattle.lol_css.proofs.selectors.compounds.reads_nothing.Goals as goal

pub returns-in-Ok : goal.returns-in-Ok
returns-in-Ok c = rw c.in-Ok.is (rw c.as_slice.ensures.value at c.is_empty.ensures ∙ compound-empty c.in-Ok.compound)
