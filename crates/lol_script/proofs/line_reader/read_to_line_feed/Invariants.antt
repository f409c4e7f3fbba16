use Rattle.std.proofs.Common.{◌≡◌, ◌≤◌, ◌^◌, ◌-◌, ◌++◌, List, ℕ, false, length}
use Rattle.std.specs.List.{list_any}
use Rattle.lol_script.specs.Devices.{Reads, failures_of}
use Rattle.lol_script.specs.ReadLines.{AreCounted, is_line_feed}
use Rattle.lol_script.proofs.line_reader.read_to_line_feed.Given as goal

abbrev pub invariant-loop-reader : goal.invariant-loop-reader
invariant-loop-reader g l =
    record {
      read : (more : List ℕ) × Reads g.R.Read.remaining l.fn.reader l.reader more × (l.bytes.items ≡ l.fn.bytes.items ++ more);
      none : list_any is_line_feed l.bytes.items ≡ false;
      failures : failures_of l.reader ≡ failures_of l.fn.reader;
      counted : AreCounted l.fn.bytes.items l.bytes.items l.fn.reads.items l.reads.items;
      grows : length l.fn.reads.items ≤ length l.reads.items;
      room : length l.chunk ≡ length l.fn.chunk;
    }

abbrev pub decreases-loop-reader : goal.decreases-loop-reader
decreases-loop-reader g l = 2 ^ 64 - length l.bytes.items
