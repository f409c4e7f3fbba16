use Rattle.std.proofs.Common.{◌≡◌, ◌+◌, ◌-◌, ◌≤◌, ◌++◌, take, length}
use Rattle.lol_page.specs.PageMatches.{ReadsOn}
use Rattle.zugrenja.specs.Lines.{lines_of}
use Rattle.zugrenja.specs.PageReadings.{matches_in}
use Rattle.zugrenja.proofs.pages.push_matches.Given as goal

abbrev pub invariant-loop-i : goal.invariant-loop-i
invariant-loop-i l = record {
  within : l.i ≤ length l.chunk;
  read : ReadsOn l.fn.page l.page (take l.i l.chunk);
  lines : l.lines.items ≡ l.fn.lines.items ++ lines_of l.style (matches_in l.fn.page (take l.i l.chunk));
  count : l.counted ≡ l.count + length (matches_in l.fn.page (take l.i l.chunk));
}

abbrev pub decreases-loop-i : goal.decreases-loop-i
decreases-loop-i l = length l.chunk - l.i
