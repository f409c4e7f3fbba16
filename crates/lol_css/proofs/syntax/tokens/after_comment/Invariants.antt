use Rattle.std.proofs.Common.{◌≡◌, length}
use Rattle.lol_css.specs.Tokens.{in_comment}
use Rattle.lol_css.specs.Points.{many}
use Rattle.lol_css.proofs.syntax.tokens.after_comment.Given as goal

abbrev pub invariant-loop-after : goal.invariant-loop-after
invariant-loop-after l = (many in_comment l.rest).1 ≡ (many in_comment l.fn.text).1

abbrev pub decreases-loop-after : goal.decreases-loop-after
decreases-loop-after l = length l.rest
