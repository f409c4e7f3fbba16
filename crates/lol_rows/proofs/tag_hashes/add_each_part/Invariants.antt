use Rattle.std.proofs.Common.{◌≡◌, ◌++◌, length, map}
use Rattle.lol_instructions.specs.Keys.{parts_of}
use Rattle.lol_rows.specs.KeyHashes.{hash_of_part}
use Rattle.lol_rows.proofs.tag_hashes.add_each_part.Given as goal

-- with those of the parts that are left, all are there
abbrev pub invariant-loop-left : goal.invariant-loop-left
invariant-loop-left l = l.hashes.items ++ map (hash_of_part l.hasher) (parts_of l.left) ≡ l.fn.hashes.items ++ map (hash_of_part l.hasher) (parts_of l.fn.value)

abbrev pub decreases-loop-left : goal.decreases-loop-left
decreases-loop-left l = length l.left
