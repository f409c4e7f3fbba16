use Rattle.lol_references.proofs.Pieces.{others_stay}
use Rattle.lol_references.proofs.laws.other_bytes_stay.Goals as goal

pub returns : goal.returns
returns c = others_stay
