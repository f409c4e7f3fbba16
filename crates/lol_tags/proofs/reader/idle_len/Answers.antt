-- Nothing before what was found is the byte that was looked for.
use Rattle.std.proofs.Common.{length}
use Rattle.lol_tags.proofs.Idle.{lacks-take}
use Rattle.lol_tags.proofs.reader.idle_len.Goals as goal

pub returns-in-Some-clause-lacks : goal.returns-in-Some-clause-lacks
returns-in-Some-clause-lacks c = lacks-take c.args.stop c.args.rest.now c.in-Some.place c.in-Some.ensures.0.before

pub returns-in-None-clause-lacks : goal.returns-in-None-clause-lacks
returns-in-None-clause-lacks c = lacks-take c.args.stop c.args.rest.now (length c.args.rest.now) c.in-None.ensures
