use Rattle.lol_machine.specs.CallCharges.{charges_at_end}
use Rattle.lol_examples.proofs.links.tell.Goals as goal

pub returns-in-End : goal.returns-in-End
returns-in-End c = charges_at_end c.exec_for_end_tag.ensures.slots c.exec_for_end_tag.ensures.bytes
