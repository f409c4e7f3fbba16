use Rattle.lol_tags.proofs.Standing.{stand-apart, read-fresh, read-after, read-told}
use Rattle.lol_tags.proofs.laws.unfinished_tags_are_kept.Goals as goal

pub returns : goal.returns
returns c = record { fresh = read-fresh; after = read-after; told = read-told; tags = stand-apart }
