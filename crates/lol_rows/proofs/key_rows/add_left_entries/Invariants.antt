use Rattle.std.proofs.Common.{◌≡◌, ◌++◌, filter, map, take}
use Rattle.lol_rows.specs.Rows.{leaves, passes_at}
use Rattle.lol_rows.specs.KeyRows.{address_of}
use Rattle.lol_rows.proofs.key_rows.add_left_entries.Given as goal

-- the addresses of those of the entries before that pass are added
abbrev pub invariant-loop-entry : goal.invariant-loop-entry
invariant-loop-entry l = l.found.items ≡ l.fn.found.items ++ filter (passes_at (leaves l.keys) l.instructions) (take l.entry-index (map address_of l.row))
