use Rattle.std.proofs.Common.{◌≡◌, ◌++◌, ◌∷◌, take}
use Rattle.std.specs.List.{flat_map}
use Rattle.lol_machine.specs.Views.{match_of}
use Rattle.lol_script.specs.Output.{shown_match}
use Rattle.lol_script.proofs.output.push_others.Given as goal

abbrev pub invariant-loop-info : goal.invariant-loop-info
invariant-loop-info l = l.text.items ≡ l.initial.text.items ++ flat_map (λ info. 44 ∷ shown_match (match_of info)) (take l.info-index l.others)
