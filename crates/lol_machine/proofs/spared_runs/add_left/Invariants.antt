use Rattle.lol_machine.proofs.Common.{◌≡◌, ◌++◌, ◌≤◌, take}
use Rattle.std.specs.Vec.{vec_capacity}
use Rattle.lol_rows.specs.Rows.{AreItsHashes, AreRowsOf, leaves}
use Rattle.lol_machine.specs.SparedRuns.{all_passing}
use Rattle.lol_machine.specs.TagRuns.{all_ranges}
use Rattle.lol_machine.proofs.spared_runs.add_left.Given as goal

abbrev pub invariant-loop-index : goal.invariant-loop-index
invariant-loop-index l = record {
  left : AreRowsOf l.instructions l.rows → AreItsHashes l.instructions l.keys → l.left.items
      ≡ l.fn.left.items ++ all_passing (leaves l.keys) l.instructions (take l.index (all_ranges l.ranges));
  room : vec_capacity l.fn.left ≤ vec_capacity l.left;
}
