use Rattle.std.proofs.Common.{◌≡◌, ◌↔◌, IsTrue, take}
use Rattle.lol_base.specs.Names.{lowercased}
use Rattle.lol_base.proofs.caseless.are_equal.Given as goal

abbrev pub invariant-loop-offset : goal.invariant-loop-offset
invariant-loop-offset l = IsTrue l.equal ↔ (lowercased (take l.offset l.a) ≡ lowercased (take l.offset l.b))
