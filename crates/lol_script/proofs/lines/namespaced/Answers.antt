use Rattle.std.proofs.Common.{refl, ap}
use Rattle.std.specs.Prelude.{codes}
use Rattle.std.specs.List.{slice_split}
use Rattle.lol_script.specs.Script.{is_tab}
use Rattle.lol_script.proofs.lines.namespaced.Goals as goal

pub returns-in-Some-clause-some : goal.returns-in-Some-clause-some
returns-in-Some-clause-some c = (codes "html", refl, ap (slice_split is_tab) c.in-Some.ensures.some)
