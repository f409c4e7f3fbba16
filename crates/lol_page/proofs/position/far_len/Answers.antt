-- Nothing before what was found ends a line.
use Rattle.std.proofs.Common.{length}
use Rattle.lol_page.proofs.Plain.{plain-take}
use Rattle.lol_page.proofs.position.far_len.Goals as goal

pub returns-in-Some-clause-plain : goal.returns-in-Some-clause-plain
returns-in-Some-clause-plain c = plain-take c.args.bytes.now c.in-Some.place c.in-Some.ensures.0.before

pub returns-in-None-clause-plain : goal.returns-in-None-clause-plain
returns-in-None-clause-plain c = plain-take c.args.bytes.now (length c.args.bytes.now) c.in-None.ensures
