use Rattle.std.proofs.Common.{rules}
use Rattle.lol_base.proofs.bytes.Bytes.slice.Goals as goal

pub returns : goal.returns
returns c = search rules
