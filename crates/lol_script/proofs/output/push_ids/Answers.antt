use Rattle.std.proofs.Common.{rules, ◌≡◌, ◌++◌, ◌∷◌, List, ℕ, map, take, sym, ap, ◌∙◌}
use Rattle.std.specs.List.{flat_map}
use Rattle.std.proofs.lemmas.List.{append_assoc, take_all}
use Rattle.lol_script.specs.Output.{comma_list, shown_match}
use Rattle.lol_script.proofs.Commas.{listed_is}
use Rattle.lol_script.proofs.output.push_ids.Goals as goal

pub returns : goal.returns
returns c =
    let before = c.args.text.now.items in
    let shown = λ (id : ℕ). shown_match (record { id = id; with_content = c.args.with_content }) in
    let comma = λ (id : ℕ). 44 ∷ shown id in
    let first = c.in-Some.first.now in
    let others = c.in-Some.others.now in
    let split : c.args.ids.now ≡ first ∷ others = search rules in
    c.loop-id.invariant
    ∙ ((λ i. c.in_ok-push_id.ensures i ++ flat_map comma (take_all c.loop-id.id-index others c.loop-id-test.false i))
    ∙ (append_assoc before (shown first) (flat_map comma others)
    ∙ ap (λ (list : List ℕ). before ++ list) (sym (ap (λ (l : List ℕ). comma_list (map shown l)) split ∙ listed_is shown first others))))
