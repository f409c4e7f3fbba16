use Rattle.std.proofs.Common.{◌≡◌, map, take}
use Rattle.std.specs.Prelude.{fold}
use Rattle.lol_program.specs.NodeKeys.{test_hashed, compound_hashed}
use Rattle.lol_program.proofs.Tests.{test_in, compound_in}
use Rattle.lol_program.proofs.node_key.+hashing.Given as goal

abbrev pub invariant-hash_item-loop-part : goal.invariant-hash_item-loop-part
invariant-hash_item-loop-part l = l.hasher ≡ fold test_hashed l.fn.hasher (map test_in (take l.part-index l.part-items))

abbrev pub invariant-hash_list-loop-item : goal.invariant-hash_list-loop-item
invariant-hash_list-loop-item l = l.hasher ≡ fold compound_hashed l.fn.hasher (map compound_in (take l.item-index l.item-items))
