use Rattle.std.proofs.Common.{◌≡◌, length}
use Rattle.lol_css.specs.Points.{name}
use Rattle.lol_css.proofs.syntax.tokens.after_name.Given as goal

abbrev pub invariant-loop-after : goal.invariant-loop-after
invariant-loop-after l = (name l.rest).1 ≡ (name l.fn.text).1

abbrev pub decreases-loop-after : goal.decreases-loop-after
decreases-loop-after l = length l.rest
