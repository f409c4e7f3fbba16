use Rattle.std.proofs.Common.{◌≡◌, length, drop}
use Rattle.std.specs.Str.{bytes_eq}
use Rattle.lol_base.specs.Names.{lowercased}
use Rattle.lol_instructions.proofs.attribute_matcher.has_lowercased.Given as goal

-- the bytes so far are the same
abbrev pub invariant-loop-at : goal.invariant-loop-at
invariant-loop-at l =
    (length l.actual ≡ length l.name) × (bytes_eq (lowercased (drop l.at l.actual)) (drop l.at l.name) ≡ bytes_eq (lowercased l.actual) l.name)
