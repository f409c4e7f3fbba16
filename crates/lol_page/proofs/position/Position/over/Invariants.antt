use Rattle.std.proofs.Common.{◌≡◌, ◌+◌, ◌-◌, ◌≤◌, take, length}
use Rattle.lol_page.specs.Positions.{moved_over}
use Rattle.lol_page.proofs.position.Position.over.Given as goal

abbrev pub invariant-loop-i : goal.invariant-loop-i
invariant-loop-i l = record {
  within : l.i ≤ length l.bytes;
  moved : l.position ≡ moved_over l.fn.self (take l.i l.bytes);
  lines : l.position.line_ends ≤ l.fn.self.line_ends + l.i;
  columns : l.position.column ≤ l.fn.self.column + l.i;
}

abbrev pub decreases-loop-i : goal.decreases-loop-i
decreases-loop-i l = length l.bytes - l.i
