use Rattle.std.proofs.Common.{rules}
use Rattle.lol_program.proofs.node_index.NodeIndex.new.Goals as goal

pub returns : goal.returns
returns c = search rules
