use Rattle.std.proofs.Common.{◌-◌, ◌≡◌, ◌<◌, ◌≤◌, false, length}
use Rattle.std.specs.Prelude.{slice_index_or}
use Rattle.std.specs.declared.cmp.Ordering.TheVariants.{Less}
use Rattle.std.specs.Ordering.{is_lt}
use Rattle.lol_base.specs.LocalNames.{local_name_cmp}
use Rattle.lol_stack.proofs.name_blocks.names_below.Given as goal

abbrev pub invariant-loop-low : goal.invariant-loop-low
invariant-loop-low g l = record {
  ordered : l.low ≤ l.high;
  within : l.high ≤ length l.names;
  before : (d : _) → 0 < l.low → local_name_cmp (slice_index_or l.names (l.low - 1) d).0 l.name ≡ Less;
  after : (d : _) → l.high < length l.names → is_lt (local_name_cmp (slice_index_or l.names l.high d).0 l.name) ≡ false;
}

abbrev pub decreases-loop-low : goal.decreases-loop-low
decreases-loop-low g l = l.high - l.low
