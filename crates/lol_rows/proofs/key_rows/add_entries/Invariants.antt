use Rattle.std.proofs.Common.{◌≡◌, ◌++◌, map, take}
use Rattle.lol_rows.specs.KeyRows.{address_of}
use Rattle.lol_rows.proofs.key_rows.add_entries.Given as goal

-- the addresses of the entries before are added
abbrev pub invariant-loop-entry : goal.invariant-loop-entry
invariant-loop-entry l = l.found.items ≡ l.fn.found.items ++ map address_of (take l.entry-index l.row)
