use Rattle.lol_tags.proofs.Inside.{inside, wholly-inside}
use Rattle.lol_tags.proofs.laws.attributes_stand_inside.Goals as goal

pub returns : goal.returns
returns c = record { parts = inside; whole = wholly-inside }
