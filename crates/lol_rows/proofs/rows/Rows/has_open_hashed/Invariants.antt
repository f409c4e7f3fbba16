use Rattle.lol_rows.proofs.Left.{NoneSoFar}
use Rattle.lol_rows.proofs.rows.Rows.has_open_hashed.Given as goal

abbrev pub invariant-loop-entry : goal.invariant-loop-entry
invariant-loop-entry l = NoneSoFar l.local_name.lowercased l.instructions l.range l.entry-items l.entry-index
