use Rattle.std.proofs.Common.{◌≡◌, drop}
use Rattle.std.specs.Ordering.{nat_cmp}
use Rattle.std.specs.Cmp.Lexicographic.{slice_cmp}
use Rattle.lol_base.specs.Names.{lowercased}
use Rattle.lol_base.proofs.local_name.cmp_ignore_ascii_case.Given as goal

abbrev pub invariant-loop-at : goal.invariant-loop-at
invariant-loop-at l =
    slice_cmp nat_cmp (lowercased l.bytes) (lowercased l.others)
    ≡ slice_cmp nat_cmp (lowercased (drop l.at l.bytes)) (lowercased (drop l.at l.others))
