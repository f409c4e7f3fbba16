use Rattle.std.proofs.Common.{rules}
use Rattle.lol_stack.proofs.name_blocks.NameBlocks.search.Goals as goal

pub returns-clause-place : goal.returns-clause-place
returns-clause-place c = search rules
