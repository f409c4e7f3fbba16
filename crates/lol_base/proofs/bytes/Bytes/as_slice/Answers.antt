use Rattle.std.proofs.Common.{refl}
use Rattle.lol_base.proofs.bytes.Bytes.as_slice.Goals as goal

pub returns : goal.returns
returns c = refl
