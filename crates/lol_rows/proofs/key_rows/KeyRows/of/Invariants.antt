use Rattle.std.proofs.Common.{◌≡◌, ◌≤◌, length, map, take}
use Rattle.std.specs.Vec.{vec_capacity}
use Rattle.lol_rows.specs.Rows.{hash_by}
use Rattle.lol_rows.proofs.key_rows.KeyRows.of.Given as goal

-- the instructions before have their hashes, and there is room for all
abbrev pub invariant-loop-instruction : goal.invariant-loop-instruction
invariant-loop-instruction l = record {
  hashed : l.hashes.items ≡ map (hash_by l.kind) (take l.instruction-index l.instructions);
  room : length l.instructions ≤ vec_capacity l.hashes;
}
