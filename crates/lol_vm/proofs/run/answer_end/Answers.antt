use Rattle.std.proofs.Common.{rules, ◌≡◌, List, false, inl, refl, sym, ap, ◌∙◌, map}
use Rattle.std.proofs.lemmas.Fn.{chained_keeps}
use Rattle.std.proofs.lemmas.List.{map_push}
use Rattle.lol_machine.specs.Answers as answers
use Rattle.lol_machine.specs.Events.{End}
use Rattle.lol_matcher.specs.Refusing.{allowance}
use Rattle.lol_matcher.specs.Told.{Matching, Told, heard}
use Rattle.lol_matcher.specs.declared.open_element.OpenElement.{OpenElement}
use Rattle.lol_vm.proofs.ToldOn.{answered_as, closed_as, told_on}
use Rattle.lol_vm.proofs.run.answer_end.Goals as goal

pub returns-clause-answers : goal.returns-clause-answers
returns-clause-answers c = λ ast esi a events w few.
    let m = c.args.matcher.now in
    let new = c.end_with.new.self in
    let laws = c.calls_answer_alike.ensures in
    let name = c.args.name.now in
    let collected = chained_keeps _ (λ (xs : List (OpenElement (Unit {0}))) q. (q.0.ghost_name ≡ c.collected-1.given.0) × (q.0.now.refused ≡ false → q.0.now.items.items ≡ map (λ (x : OpenElement (Unit {0})). x.number) xs))
    (λ xs q x v j k. let push = map_push (λ (x : OpenElement (Unit {0})). x.number) xs x in search (rules, j, k, push)) _ _ _ (refl, λ _. c.new-collected.ensures.items) c.end_with.ensures.called in
    let kept : c.collected-2-1.given.0.items.items ≡ map (λ (x : OpenElement (Unit {0})). x.number) _ = search (rules, collected.0, collected.1, c.if-refused.false) in
    let told_is : new.told ≡ _ = ap (λ (x : Matching (Unit {0})). x.told) c.end_with.ensures.ended in
    record {
      answered =
          ap answers.Ended (kept ∙ (c.end_with.ensures.numbered ∙ closed_as laws.alike laws.goes_on ast esi a events m w c.documents_are_ordered.ensures few name))
          ∙ answered_as laws.alike laws.goes_on ast esi a events m w (End name) _ refl;
      goes_on = told_on laws.alike laws.goes_on ast esi a events m w (End name) (End name) (inl refl) refl new
          (ap (λ (x : Matching (Unit {0})). x.failed) c.end_with.ensures.ended ∙ w.well) (ap (λ (t : Told). t.ast) told_is) (ap (λ (t : Told). t.esi) told_is)
          (ap (λ (x : Matching (Unit {0})). allowance x.element_bytes x.max_memory) c.end_with.ensures.ended) (ap heard told_is) (c.end_with.ensures.open w.well);
    }
