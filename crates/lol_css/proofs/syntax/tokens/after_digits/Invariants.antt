use Rattle.std.proofs.Common.{◌≡◌, ◌≤◌, length}
use Rattle.lol_css.specs.Points.{many, first_that, is_decimal}
use Rattle.lol_css.proofs.syntax.tokens.after_digits.Given as goal

abbrev pub invariant-loop-after : goal.invariant-loop-after
invariant-loop-after l = record {
  value : (many (first_that is_decimal) l.rest).1 ≡ (many (first_that is_decimal) l.fn.text).1;
  shorter : length l.rest ≤ length l.fn.text;
}

abbrev pub decreases-loop-after : goal.decreases-loop-after
decreases-loop-after l = length l.rest
