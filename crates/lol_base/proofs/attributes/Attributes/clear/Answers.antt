use Rattle.std.proofs.Common.{rules}
use Rattle.lol_base.proofs.attributes.Attributes.clear.Goals as goal

pub returns : goal.returns
returns c = search rules
