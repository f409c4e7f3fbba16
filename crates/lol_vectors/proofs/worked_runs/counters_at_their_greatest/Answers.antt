use Rattle.std.proofs.Common.{refl, ap, nat_lt, if◌then◌else◌, Some}
use Rattle.lol_machine.specs.Refusals.{Counter}
use Rattle.lol_vectors.specs.WorkedRuns.{limit_alone}
use Rattle.lol_vectors.proofs.worked_runs.counters_at_their_greatest.Goals as goal

pub returns : goal.returns
returns c = record {
  greatest = refl;
  below = refl;
  full = refl;
  counted = λ s esi a d most tag at. ap (λ position. if nat_lt 2147483647 position then Some Counter else limit_alone s esi a d most tag) at;
  refused = λ s esi a d most tag above. ap (λ position. if nat_lt 2147483647 position then Some Counter else limit_alone s esi a d most tag) above;
}
