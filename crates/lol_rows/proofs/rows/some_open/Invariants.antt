use Rattle.lol_rows.specs.Rows.{is_left_open, passes_at}
use Rattle.lol_rows.proofs.Left.{NoneBefore}
use Rattle.lol_rows.proofs.rows.some_open.Given as goal

abbrev pub invariant-loop-address : goal.invariant-loop-address
invariant-loop-address l = NoneBefore (passes_at (is_left_open l.local_name.lowercased) l.instructions) l.range l.address
