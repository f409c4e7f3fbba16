use Rattle.std.proofs.Common.{rules}
use Rattle.lol_base.specs.Names.{void_names}
use Rattle.lol_base.proofs.tag.Tag.is_void.Goals as goal

pub returns : goal.returns
unfolding void_names
returns c = search rules
