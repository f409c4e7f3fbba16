use Rattle.std.proofs.Common.{◌-◌, ◌≤◌, take, length}
use Rattle.lol_tags.specs.Idling.{Each, in_name}
use Rattle.lol_tags.proofs.front.name_len.Given as goal

abbrev pub invariant-loop-i : goal.invariant-loop-i
invariant-loop-i l = record {
  within : l.i ≤ length l.rest;
  name : Each in_name (take l.i l.rest);
}

abbrev pub decreases-loop-i : goal.decreases-loop-i
decreases-loop-i l = length l.rest - l.i
