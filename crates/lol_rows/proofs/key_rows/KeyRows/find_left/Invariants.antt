use Rattle.std.proofs.Common.{take}
use Rattle.lol_rows.specs.Rows.{hash_by, leaves}
use Rattle.lol_rows.specs.KeyRows.{CanFind}
use Rattle.lol_rows.specs.declared.row_kind.RowKind.{RowKind}
use Rattle.lol_rows.proofs.Found.{AreLeft}
use Rattle.lol_rows.proofs.key_rows.KeyRows.find_left.Given as goal

-- what is left of the hashes before is found
abbrev pub invariant-loop-hash : goal.invariant-loop-hash
invariant-loop-hash l = (kind : RowKind) → CanFind kind l.instructions l.self l.keys → AreLeft (leaves l.keys) l.instructions (hash_by kind) l.range (take l.hash-index l.hashes) l.found.items
