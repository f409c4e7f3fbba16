use Rattle.std.proofs.Common.{◌-◌, ◌≤◌, take, length}
use Rattle.lol_tags.specs.Idling.{Each}
use Rattle.lol_tags.specs.States.{is_space}
use Rattle.lol_tags.proofs.front.space_len.Given as goal

abbrev pub invariant-loop-i : goal.invariant-loop-i
invariant-loop-i l = record {
  within : l.i ≤ length l.rest;
  spaces : Each is_space (take l.i l.rest);
}

abbrev pub decreases-loop-i : goal.decreases-loop-i
decreases-loop-i l = length l.rest - l.i
