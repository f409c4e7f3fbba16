use Rattle.std.proofs.Common.{◌≡◌, ◌≤◌, ◌++◌, ◌-◌, filter, take}
use Rattle.std.specs.Vec.{vec_capacity}
use Rattle.lol_rows.specs.Rows.{addresses, leaves, passes_at}
use Rattle.lol_rows.proofs.tag_keys.TagKeys.add_left.Given as goal

-- those of the addresses before that are left are added
abbrev pub invariant-loop-address : goal.invariant-loop-address
invariant-loop-address l = record {
  added : l.left.items ≡ l.fn.left.items ++ filter (passes_at (leaves l.self) l.instructions) (take (l.address - l.range.start) (addresses l.range));
  grows : vec_capacity l.fn.left ≤ vec_capacity l.left;
}
