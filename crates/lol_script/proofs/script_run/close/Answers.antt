-- each call of the handler lists one more
use Rattle.std.proofs.Common.{rules, ◌≡◌, ◌++◌, ◌∷◌, [], ℕ, List, length, map, refl, sym, ◌∙◌, subst}
use Rattle.std.specs.Prelude.{drop}
use Rattle.std.proofs.lemmas.Fn.{chained_keeps}
use Rattle.std.proofs.lemmas.List.{map-append}
use Rattle.lol_machine.specs.Vms.{open_after}
use Rattle.lol_matcher.specs.declared.open_element.OpenElement.{OpenElement}
use Rattle.lol_script.specs.AnswerTexts.{IsListing}
use Rattle.lol_script.specs.declared.output.Written.{Written}
use Rattle.lol_script.proofs.script_run.close.Goals as goal

pub returns-clause-listed : goal.returns-clause-listed
returns-clause-listed c before none =
    let closed : List (OpenElement (Unit {0})) = drop (length (open_after c.args.name.now c.args.matcher.now.open_elements)) c.args.matcher.now.kept in
    let number = λ (x : OpenElement (Unit {0})). x.number in
    let all = chained_keeps _ (λ (xs : List (OpenElement (Unit {0}))) q. (q.0.ghost_name ≡ c.handler-1.given) × IsListing before (map number xs) q.0.now)
    (λ xs q x v j k. (k.met.1.0 ∙ j.0, subst (λ (ns : List ℕ). IsListing before ns v.0.now) (sym (map-append number xs (x ∷ []))) (k.met.1.1 before (map number xs) j.1))) _ _ _ (refl, none) c.end_with.ensures.called in
    let same : c.end_with.new.handler.0.now ≡ c.list-1.given.0 = search (rules, all.0) in
    subst (λ (ns : List ℕ). IsListing before ns c.list-1.given.0) c.end_with.ensures.numbered (subst (λ (l : Written). IsListing before (map number closed) l) same all.1)
