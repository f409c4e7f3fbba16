use Rattle.std.proofs.Common.{◌≡◌, ◌-◌, ◌≤◌, min, map, length}
use Rattle.std.specs.List.{list_all}
use Rattle.lol_css.specs.Points.{number_after, decimal, is_decimal}
use Rattle.lol_css.specs.Views.{points_of}
use Rattle.lol_css.proofs.syntax.an_plus_b.name_magnitude.Given as goal

-- the rest, after the number so far, writes the whole number, if all of it is digits
abbrev pub invariant-loop-c : goal.invariant-loop-c
invariant-loop-c l = record {
  small : l.number ≤ 2147483649;
  value : min (number_after 10 l.number (map (λ c. c - 48) (points_of l.rest))) 2147483649 ≡ min (decimal (points_of l.fn.name)) 2147483649;
  digits : list_all is_decimal (points_of l.rest) ≡ list_all is_decimal (points_of l.fn.name);
}

abbrev pub decreases-loop-c : goal.decreases-loop-c
decreases-loop-c l = length (points_of l.rest)
