use Rattle.std.proofs.Common.{◌-◌, ◌≡◌, ◌<◌, ◌≤◌, true, false, length}
use Rattle.std.specs.Prelude.{slice_index_or}
use Rattle.lol_stack.specs.NameBlocks.{begins_above}
use Rattle.lol_stack.proofs.name_blocks.blocks_up_to.Given as goal

abbrev pub invariant-loop-low : goal.invariant-loop-low
invariant-loop-low g l = record {
  ordered : l.low ≤ l.high;
  within : l.high ≤ length l.blocks;
  before : (d : _) → 0 < l.low → begins_above l.name (slice_index_or l.blocks (l.low - 1) d).items ≡ false;
  after : (d : _) → l.high < length l.blocks → begins_above l.name (slice_index_or l.blocks l.high d).items ≡ true;
}

abbrev pub decreases-loop-low : goal.decreases-loop-low
decreases-loop-low g l = l.high - l.low
