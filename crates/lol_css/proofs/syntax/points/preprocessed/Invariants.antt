use Rattle.lol_css.proofs.Many.{Cleans}
use Rattle.lol_css.proofs.syntax.points.preprocessed.Given as goal

abbrev pub invariant-loop-c : goal.invariant-loop-c
invariant-loop-c l = Cleans l.points.items l.before l.yielded
