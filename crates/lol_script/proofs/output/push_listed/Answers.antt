use Rattle.std.proofs.Common.{◌∙◌, ◌++◌, ◌∷◌, [], decimal}
use Rattle.std.proofs.lemmas.List.{append_assoc}
use Rattle.lol_script.proofs.Commas.{first_listed, next_listed}
use Rattle.lol_script.proofs.output.push_listed.Goals.{then-has_some+in_ok-push, else-has_some}
use Rattle.lol_script.proofs.output.push_listed.Goals as goal

pub returns : goal.returns
returns c = λ before numbers has.
    let number = decimal c.args.number in
    elim c.if-has_some.branch [
      | then-has_some+in_ok-push w ↦ next_listed before numbers c.args.number _ _ _ w.if-has_some.true has
          (c.in_ok-push_number.ensures ∙ ((λ i. (w.text-is i).items ++ number) ∙ ((λ i. w.in_ok-push.ensures.items i ++ number) ∙ append_assoc c.args.text.now.items (44 ∷ []) number)))
      | else-has_some w ↦ first_listed before numbers c.args.number _ _ _ w.if-has_some.false has (c.in_ok-push_number.ensures ∙ (λ i. (w.text-is i).items ++ number))
    ]
