use Rattle.std.proofs.Common.{◌≡◌, ◌^◌, ◌-◌, ◌≤◌, ◌<◌, List, ℕ, length}
use Rattle.lol_script.specs.Devices.{Reads, failures_of}
use Rattle.lol_script.proofs.line_reader.read_rest.Given as goal

abbrev pub invariant-loop-reader : goal.invariant-loop-reader
invariant-loop-reader g l =
    record {
      read : (more : List ℕ) × Reads g.R.Read.remaining l.fn.reader l.reader more;
      failures : failures_of l.reader ≡ failures_of l.fn.reader;
      room : 0 < length l.chunk;
      grows : length l.fn.reads.items ≤ length l.reads.items;
    }

abbrev pub decreases-loop-reader : goal.decreases-loop-reader
decreases-loop-reader g l = 2 ^ 64 - length l.reads.items
