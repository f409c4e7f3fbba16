use Rattle.std.proofs.Common.{length}
use Rattle.lol_program.proofs.ast_node.+reserve_id.Given as goal

abbrev pub decreases-reserve_id : goal.decreases-reserve_id
decreases-reserve_id l = length l.rest.now
