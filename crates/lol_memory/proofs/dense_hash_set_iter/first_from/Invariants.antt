use Rattle.std.proofs.Common.{◌≤◌, ◌-◌, ◌*◌, length}
use Rattle.lol_memory.specs.Words.{NoneHeld}
use Rattle.lol_memory.proofs.dense_hash_set_iter.first_from.Given as goal

abbrev pub invariant-loop-at : goal.invariant-loop-at
invariant-loop-at l = (l.from ≤ l.at) × (l.at ≤ 32 * length l.words) × NoneHeld l.words l.from l.at

abbrev pub decreases-loop-at : goal.decreases-loop-at
decreases-loop-at l = 32 * length l.words - l.at
