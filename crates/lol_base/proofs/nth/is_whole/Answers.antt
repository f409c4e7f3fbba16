use Rattle.lol_base.proofs.Steps.{whole-test}
use Rattle.lol_base.proofs.nth.is_whole.Goals as goal

pub returns : goal.returns
returns c =
    whole-test c.args.step c.args.distance c.ranges.step c.ranges.distance c.unsigned_abs.result c.unsigned_abs-2.result c.unsigned_abs.ensures.value c.unsigned_abs-2.ensures.value c.if-step-eq0.false c.if-distance-eq0.false c.if-distance-step.false
