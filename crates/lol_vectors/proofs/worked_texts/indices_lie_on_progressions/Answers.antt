use Rattle.std.proofs.Common.{refl}
use Rattle.lol_vectors.proofs.worked_texts.indices_lie_on_progressions.Goals as goal

pub returns : goal.returns
returns c = record {
  rising = (2, refl);
  falling = (3, refl);
  alone = (0, refl);
}
