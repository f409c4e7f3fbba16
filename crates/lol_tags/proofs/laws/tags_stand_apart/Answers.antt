use Rattle.std.proofs.Common.{[]}
use Rattle.lol_tags.specs.Reading.{fresh, may_be_tag}
use Rattle.lol_tags.proofs.Standing.{stand-apart, read-fresh}
use Rattle.lol_tags.proofs.laws.tags_stand_apart.Goals as goal

pub returns : goal.returns
unfolding may_be_tag
returns c = λ scripting bytes. stand-apart [] bytes (fresh scripting) (read-fresh scripting)
