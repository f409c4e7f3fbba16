use Rattle.std.proofs.Common.{sym}
use Rattle.lol_stack.proofs.name_blocks.NameBlocks.get.Goals as goal

pub returns-in-Err : goal.returns-in-Err
returns-in-Err g c = sym c.in-Err.ensures.missing
