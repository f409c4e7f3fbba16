use Rattle.std.proofs.Common.{◌≡◌, ◌++◌, ◌∷◌, take}
use Rattle.std.specs.List.{flat_map}
use Rattle.lol_script.specs.Output.{shown_match}
use Rattle.lol_script.proofs.output.push_ids.Given as goal

abbrev pub invariant-loop-id : goal.invariant-loop-id
invariant-loop-id l =
    l.text.items ≡ l.initial.text.items ++ flat_map (λ id. 44 ∷ shown_match (record { id = id; with_content = l.with_content })) (take l.id-index l.others)
