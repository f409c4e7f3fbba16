use Rattle.std.proofs.Common.{◌≡◌, ◌↔◌, length}
use Rattle.lol_base.specs.Names.{lowercased}
use Rattle.lol_base.proofs.caseless.eq_ignore_ascii_case.Given as goal

abbrev pub invariant-loop-rest : goal.invariant-loop-rest
invariant-loop-rest l =
    record {
      long : length l.rest ≡ length l.other;
      same : (lowercased l.fn.a ≡ lowercased l.fn.b) ↔ (lowercased l.rest ≡ lowercased l.other);
    }

abbrev pub decreases-loop-rest : goal.decreases-loop-rest
decreases-loop-rest l = length l.rest
