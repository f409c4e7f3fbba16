-- after the last turn there is no other id, or no room
use Rattle.std.proofs.Common.{arith, length, map}
use Rattle.std.proofs.lemmas.Grind.{common_steps}
use Rattle.std.proofs.lemmas.List.{drop_min, take-append-drop, take-map, take_min}
use Rattle.zugrenja_c.proofs.running.write_ids.Goals as goal

pub returns-clause-written : goal.returns-clause-written
returns-clause-written c =
    let ids = map (λ info. info.match_id) c.args.matches.now in
    let old = c.args.ids.now in
    let i = c.loop-index.index in
    grind (arith, common_steps, take-append-drop i c.loop-index.ids, take-map (λ info. info.match_id) i c.args.matches.now, take_min (length old) ids, drop_min (length c.args.matches.now) old)
