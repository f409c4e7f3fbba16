use Rattle.std.proofs.Common.{◌≡◌, ◌-◌, ◌≤◌, [], false, take, length}
use Rattle.lol_page.specs.Pages.{page_tags_from}
use Rattle.lol_page.specs.PageMatches.{ReadsOn, matches_told}
use Rattle.lol_page.proofs.page.Page.next_match.Given as goal

abbrev pub invariant-loop-i : goal.invariant-loop-i
invariant-loop-i g l = record {
  within : l.i ≤ length l.chunk;
  goes_on : l.self.failed ≡ false;
  read : ReadsOn l.fn.self l.self (take l.i l.chunk);
  none : matches_told l.fn.self.reader.page.decoded l.fn.self.matcher.told (page_tags_from l.fn.self.reader.page (take l.i l.chunk)) ≡ [];
}

abbrev pub decreases-loop-i : goal.decreases-loop-i
decreases-loop-i g l = length l.chunk - l.i
