use Rattle.std.proofs.Common.{rules, ◌≡◌, ◌++◌, ◌∷◌, List, ℕ, map, sym, ap, ◌∙◌}
use Rattle.std.specs.List.{flat_map}
use Rattle.std.proofs.lemmas.List.{append_assoc}
use Rattle.std.proofs.lemmas.Result.{on_ok_weaker}
use Rattle.lol_memory.specs.declared.match_info.MatchInfo.{MatchInfo}
use Rattle.lol_machine.specs.Views.{match_of}
use Rattle.lol_script.specs.Output.{comma_list, shown_match}
use Rattle.lol_script.proofs.Commas.{listed_is}
use Rattle.lol_script.proofs.output.push_matches.Goals as goal

pub returns : goal.returns
returns c = on_ok_weaker c.push_others.result
    (λ text.
    let before = c.args.text.now.items in
    let shown = λ (info : MatchInfo). shown_match (match_of info) in
    let first = c.in-Some.first.now in
    let others = c.in-Some.others.now in
    let split : c.args.matches.now ≡ first ∷ others = search rules in
    text ∙ ((λ i. c.in_ok-push_id.ensures i ++ flat_map (λ (info : MatchInfo). 44 ∷ shown info) others)
    ∙ (append_assoc before (shown first) (flat_map (λ (info : MatchInfo). 44 ∷ shown info) others)
    ∙ ap (λ (list : List ℕ). before ++ list) (sym (ap (λ (l : List MatchInfo). comma_list (map shown l)) split ∙ listed_is shown first others)))))
    c.push_others.ensures
