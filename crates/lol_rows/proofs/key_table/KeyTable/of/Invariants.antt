use Rattle.std.proofs.Common.{◌≤◌, length}
use Rattle.std.specs.Vec.{vec_capacity}
use Rattle.lol_rows.proofs.Listed.{AreListed}
use Rattle.lol_rows.proofs.key_table.KeyTable.of.Given as goal

-- the hashes before are listed, and there is room for all
abbrev pub invariant-loop-address : goal.invariant-loop-address
invariant-loop-address l = AreListed l.fn.hashes.items l.address l.entries.items × (length l.fn.hashes.items ≤ vec_capacity l.entries)
