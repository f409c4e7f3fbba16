use Rattle.std.proofs.Common.{◌≡◌, ℕ, List, length}
use Rattle.std.specs.Io.KnownBytes.{Appends, Consumes}
use Rattle.lol_page.specs.PageMatches.{ReadsOn}
use Rattle.zugrenja.specs.Lines.{lines_of}
use Rattle.zugrenja.specs.PageReadings.{matches_in}
use Rattle.zugrenja.proofs.pages.write_chunks.Given as goal

-- the bytes so far, and the lines of their matches
abbrev pub invariant-chunks : goal.invariant-chunks
invariant-chunks g l = record {
  bytes : List ℕ;
  consumed : Consumes (g.R.Read.remaining l.fn.reader) (g.R.Read.remaining l.reader) bytes;
  read : ReadsOn l.fn.page l.page bytes;
  written : Appends (g.W.Write.contents l.fn.writer) (g.W.Write.contents l.writer) (lines_of l.style (matches_in l.fn.page bytes));
  count : l.count ≡ length (matches_in l.fn.page bytes);
}
