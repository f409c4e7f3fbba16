use Rattle.std.proofs.Common.{◌≡◌, ◌++◌, length, take}
use Rattle.lol_references.specs.Decoding.{decoded}
use Rattle.lol_references.proofs.decode.append_parts.Given as goal

abbrev pub invariant-loop-place : goal.invariant-loop-place
invariant-loop-place l = record {
  decoded : l.into.items ++ decoded l.rest ≡ l.fn.into.items ++ decoded l.value;
  kept : take (length l.fn.into.items) l.into.items ≡ l.fn.into.items;
}

abbrev pub decreases-loop-place : goal.decreases-loop-place
decreases-loop-place l = length l.rest
