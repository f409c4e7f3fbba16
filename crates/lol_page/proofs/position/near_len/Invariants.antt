use Rattle.std.proofs.Common.{◌-◌, ◌≤◌, take, length}
use Rattle.lol_page.specs.Positions.{ArePlain}
use Rattle.lol_page.proofs.position.near_len.Given as goal

abbrev pub invariant-loop-i : goal.invariant-loop-i
invariant-loop-i l = record {
  within : l.i ≤ length l.bytes;
  plain : ArePlain (take l.i l.bytes);
}

abbrev pub decreases-loop-i : goal.decreases-loop-i
decreases-loop-i l = l.end - l.i
