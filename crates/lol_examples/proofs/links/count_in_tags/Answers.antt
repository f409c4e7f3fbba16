use Rattle.lol_machine.specs.CallCharges.{charges_both, charges_nothing}
use Rattle.lol_examples.proofs.links.count_in_tags.Goals as goal

pub loop-tag-init : goal.loop-tag-init
loop-tag-init c = charges_nothing

pub loop-tag-preserved : goal.loop-tag-preserved
loop-tag-preserved c = charges_both c.loop-tag.invariant c.tell.ensures

pub returns-in_err-tell : goal.returns-in_err-tell
returns-in_err-tell c = charges_both c.loop-tag.invariant c.tell.ensures
