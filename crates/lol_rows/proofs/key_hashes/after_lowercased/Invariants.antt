use Rattle.std.proofs.Common.{◌≡◌, take}
use Rattle.std.specs.Prelude.{fold}
use Rattle.lol_base.specs.Names.{lowercased}
use Rattle.lol_rows.specs.KeyHashes.{byte_hashed}
use Rattle.lol_rows.proofs.key_hashes.after_lowercased.Given as goal

-- the bytes before were given in lower case
abbrev pub invariant-loop-byte : goal.invariant-loop-byte
invariant-loop-byte l = l.hasher ≡ fold byte_hashed l.fn.hasher (lowercased (take l.byte-index l.name))
