use Rattle.std.proofs.Common.{◌+◌, ◌*◌, length}
use Rattle.lol_vectors.proofs.plain_nodes.+matching.Given as goal

abbrev pub decreases-path_matches : goal.decreases-path_matches
decreases-path_matches l = 3 * (length l.path.now + length l.outer.now) + 1

abbrev pub decreases-left_part_matches : goal.decreases-left_part_matches
decreases-left_part_matches l = 3 * (length l.path.now + length l.outer.now)

abbrev pub decreases-step_is_reached : goal.decreases-step_is_reached
decreases-step_is_reached l = 3 * (length l.front.now + length l.outer.now) + 2
