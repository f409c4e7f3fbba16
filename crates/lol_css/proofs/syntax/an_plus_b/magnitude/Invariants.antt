use Rattle.std.proofs.Common.{◌≡◌, ◌-◌, ◌≤◌, min, map, drop}
use Rattle.lol_css.specs.Points.{number_after, decimal}
use Rattle.lol_css.proofs.syntax.an_plus_b.magnitude.Given as goal

-- the digits left, after the number so far, write the whole number
abbrev pub invariant-loop-digit : goal.invariant-loop-digit
invariant-loop-digit l = record {
  small : l.number ≤ 2147483649;
  value : min (number_after 10 l.number (map (λ c. c - 48) (drop l.digit-index l.digits))) 2147483649 ≡ min (decimal l.digits) 2147483649;
}
