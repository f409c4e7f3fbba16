-- What is near, and what comes behind it.
use Rattle.lol_page.proofs.Plain.{plain-part}
use Rattle.lol_page.proofs.position.plain_len.Goals as goal

pub returns-clause-plain : goal.returns-clause-plain
returns-clause-plain c = plain-part c.args.bytes.now c.near_len-near.result c.far_len.result c.near_len-near.ensures.plain c.far_len.ensures.plain
