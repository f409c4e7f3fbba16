use Rattle.std.proofs.Common.{◌≡◌, ◌<◌, ◌^◌, take, true}
use Rattle.std.specs.List.{fold, list_all}
use Rattle.lol_base.specs.Names.{lowercased}
use Rattle.lol_base.specs.LocalNames.{is_hash_byte, with_byte}
use Rattle.lol_base.proofs.local_name.code_of.Given as goal

abbrev pub invariant-loop-byte : goal.invariant-loop-byte
invariant-loop-byte l = record {
  small : l.code < 32 ^ l.byte-index;
  code : l.code ≡ fold with_byte 0 (lowercased (take l.byte-index l.bytes));
  hashed : list_all is_hash_byte (lowercased (take l.byte-index l.bytes)) ≡ true;
}
