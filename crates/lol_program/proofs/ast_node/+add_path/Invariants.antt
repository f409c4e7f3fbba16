use Rattle.std.proofs.Common.{length}
use Rattle.lol_program.proofs.ast_node.+add_path.Given as goal

abbrev pub decreases-add_path : goal.decreases-add_path
decreases-add_path l = length l.rest.now
