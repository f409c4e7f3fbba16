use Rattle.std.proofs.Common.{◌≡◌, List, true, length, ap, ◌∙◌}
use Rattle.std.specs.Prelude.{◌==◌}
use Rattle.lol_memory.specs.declared.match_info.MatchInfo.{MatchInfo}
use Rattle.lol_page.proofs.Telling.{read_matches}
use Rattle.lol_page.proofs.page.Page.step.Goals as goal

pub returns-else-is_empty-clause-found : goal.returns-else-is_empty-clause-found
returns-else-is_empty-clause-found g c =
    let p = c.args.self.now in
    let now = c.next_tag.new.self in
    read_matches p.reader.page.decoded p.matcher.told now.reader.text now.matcher.matched c.in_ok-read.read.tag _ c.in_ok-read.ensures.tag c.in_ok-read.ensures.matched
    (λ none.
    let empty : (length c.matches.result.now == 0) ≡ true = ap (λ (l : List MatchInfo). length l == 0) (c.matches.ensures.matched ∙ none) in
    cc (empty, c.if-is_empty.ensures))
