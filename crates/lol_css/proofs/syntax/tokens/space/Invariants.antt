use Rattle.std.proofs.Common.{◌≡◌, length}
use Rattle.lol_css.specs.Points.{many, first_that, is_white_space}
use Rattle.lol_css.proofs.syntax.tokens.space.Given as goal

abbrev pub invariant-loop-after : goal.invariant-loop-after
invariant-loop-after l = (many (first_that is_white_space) l.rest).1 ≡ (many (first_that is_white_space) l.fn.text).1

abbrev pub decreases-loop-after : goal.decreases-loop-after
decreases-loop-after l = length l.rest
