use Rattle.lol_machine.specs.CallCharges.{covered_since_new, released_since_new}
use Rattle.lol_examples.proofs.links.count_links_away.Goals as goal

pub release-requires : goal.release-requires
release-requires c = covered_since_new c.in-Ok-new.ensures.slots c.count_in_tags-count.ensures

pub returns : goal.returns
returns c = released_since_new c.in-Ok-new.ensures.slots c.count_in_tags-count.ensures c.release.ensures
