use Rattle.std.proofs.Common.{ℕ}
use Rattle.lol_program.specs.Asts.{is_with_rows}
use Rattle.lol_program.specs.ClosedLaws.{trees_are_closed}
use Rattle.lol_program.specs.Paths.{Path}
use Rattle.lol_reasons.specs.Explanations.{added_by}
use Rattle.lol_machine.specs.Views.{selectors}
use Rattle.lol_matcher.proofs.ToldReasons.{explained_alike, numbered_nodes}
use Rattle.lol_matcher.proofs.laws.told_is_explained_alike.Goals as goal

pub returns : goal.returns
returns c texts numbering holds esi events told are =
    let s = selectors numbering.ast in
    let closed = trees_are_closed (is_with_rows numbering.ast) numbering.ast in
    let known = c.innermost_witnesses_are_known.ensures in
    let found = c.witnesses_say_what_matches.ensures.found in
    let nodes = numbered_nodes s closed known found 0 (added_by texts) (λ path id h. closed.paths path id ((holds.tree (path, id)).0 h)) in
    explained_alike s closed known found esi (added_by texts) nodes c.asked_runs_answer_alike.ensures.goes_on
    (λ before came told. (c.asked_runs_answer_alike.ensures.alike numbering.ast esi before came told).answered_next) events told are
