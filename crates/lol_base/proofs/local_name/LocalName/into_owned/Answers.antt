use Rattle.std.proofs.Common.{rules}
use Rattle.lol_base.proofs.local_name.LocalName.into_owned.Goals as goal

pub returns : goal.returns
returns c = search rules
