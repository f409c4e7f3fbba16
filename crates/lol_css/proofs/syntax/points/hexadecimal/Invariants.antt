use Rattle.std.proofs.Common.{◌≡◌, ◌-◌, ◌<◌, ◌≤◌, ◌^◌, length}
use Rattle.lol_css.proofs.Many.{hexadecimal_in}
use Rattle.lol_css.proofs.syntax.points.hexadecimal.Given as goal

-- what the digits left write, after the number so far, is the whole number
abbrev pub invariant-loop : goal.invariant-loop
invariant-loop l = record {
  value : hexadecimal_in (6 - l.counter) l.number l.rest ≡ hexadecimal_in 6 0 l.fn.text;
  small : l.number < 16 ^ l.counter;
  shorter : length l.rest ≤ length l.fn.text;
}
