use Rattle.std.proofs.Common.{◌≡◌, ◌-◌, ◌≤◌, take, length}
use Rattle.std.specs.Prelude.{fold}
use Rattle.lol_tags.specs.Idling.{Each}
use Rattle.lol_tags.specs.States.{is_letter}
use Rattle.lol_tags.specs.Reading.{with_byte}
use Rattle.lol_tags.proofs.front.letters.Given as goal

abbrev pub invariant-loop-i : goal.invariant-loop-i
invariant-loop-i l = record {
  within : l.i ≤ length l.rest;
  letters : Each is_letter (take l.i l.rest);
  code : l.longer ≡ fold with_byte l.fn.code (take l.i l.rest);
}

abbrev pub decreases-loop-i : goal.decreases-loop-i
decreases-loop-i l = length l.rest - l.i
