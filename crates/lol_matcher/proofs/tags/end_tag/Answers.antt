use Rattle.std.proofs.Common.{refl}
use Rattle.lol_matcher.proofs.Charges.{charged_alike}
use Rattle.lol_matcher.proofs.Running.{runs_after_end}
use Rattle.lol_matcher.proofs.tags.end_tag.Goals as goal

pub returns-clause-runs : goal.returns-clause-runs
returns-clause-runs g c = λ s esi events limiter runs.
    let laws = c.run_laws.ensures in
    let call = c.exec_for_end_tag in
    runs_after_end laws.depths laws.counts laws.ordered s esi events c.args.name.now c.args.vm.now call.new.self limiter runs
    (call.ensures.stands s esi events c.args.name.now c.new.ensures runs.stands) call.ensures.bytes
    (charged_alike c.args.vm.now call.new.self limiter limiter call.ensures.slots call.ensures.bytes refl runs.charged)
