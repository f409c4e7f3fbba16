use Rattle.std.proofs.Common.{refl}
use Rattle.lol_matcher.specs.Answering.{with_ended}
use Rattle.zugrenja_c.proofs.Starting.{keeps}
use Rattle.zugrenja_c.proofs.running.Running.end.Goals as goal

pub invariant_of-self : goal.invariant_of-self
invariant_of-self c =
    let old = c.self.inside.matcher in
    c.list_ids.ensures.lists old (keeps old c.close.new.matcher (with_ended old c.args.name.now) c.close.ensures.ended refl) c.self.invariant
