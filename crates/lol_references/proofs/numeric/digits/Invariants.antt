use Rattle.std.proofs.Common.{length, ◌-◌, ◌+◌, ◌≡◌, ◌≤◌, take, drop, min}
use Rattle.std.specs.Str.Parse.{digits_value}
use Rattle.lol_references.specs.Numbers.{digit_count}
use Rattle.lol_references.proofs.numeric.digits.Given as goal

abbrev pub invariant-loop-len : goal.invariant-loop-len
invariant-loop-len l = record {
  within : l.len ≤ length l.bytes;
  digits : digit_count l.base l.bytes ≡ l.len + digit_count l.base (drop l.len l.bytes);
  number : l.number ≡ min 0x110000 (digits_value l.base (take l.len l.bytes));
}

abbrev pub decreases-loop-len : goal.decreases-loop-len
decreases-loop-len l = length l.bytes - l.len
