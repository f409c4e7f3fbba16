use Rattle.std.proofs.Common.{rules}
use Rattle.lol_base.proofs.bytes.Bytes.opt_slice.Goals as goal

pub returns : goal.returns
returns c = search rules
