use Rattle.std.proofs.Common.{rules}
use Rattle.lol_base.proofs.local_name.LocalNamePartialOrd.partial_cmp.Goals as goal

pub returns : goal.returns
returns c = search rules
