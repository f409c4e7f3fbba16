use Rattle.std.proofs.Common.{◌≡◌, ◌≤◌, true, take}
use Rattle.std.specs.List.{list_all}
use Rattle.lol_script.specs.Script.{is_digit, number_value}
use Rattle.lol_script.proofs.lines.number.Given as goal

abbrev pub invariant-loop-digit : goal.invariant-loop-digit
invariant-loop-digit l =
    record {
      value : l.value ≡ number_value (take l.digit-index l.digits);
      digits : list_all is_digit (take l.digit-index l.digits) ≡ true;
      bound : l.value ≤ 18446744073709551615;
    }
