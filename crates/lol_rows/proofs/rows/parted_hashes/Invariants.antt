use Rattle.std.proofs.Common.{◌≡◌, take}
use Rattle.std.specs.Prelude.{flat_map}
use Rattle.lol_rows.specs.Rows.{parted_of}
use Rattle.lol_rows.proofs.rows.parted_hashes.Given as goal

-- those of the instructions before are there
abbrev pub invariant-loop-instruction : goal.invariant-loop-instruction
invariant-loop-instruction l = l.hashes.items ≡ flat_map parted_of (take l.instruction-index l.instructions)
