use Rattle.std.proofs.Common.{◌≡◌, false, ap, sym, ◌∙◌, map, cond, not, ◌&&◌, List, ℕ}
use Rattle.std.specs.Prelude.{count_by}
use Rattle.lol_instructions.specs.Compounds.{by_names, is_open}
use Rattle.lol_program.specs.Paths.{last_compound}
use Rattle.lol_machine.specs.Events.{has_content_in}
use Rattle.lol_machine.specs.Answers as answers
use Rattle.lol_machine.specs.Matching.{left_matches}
use Rattle.lol_vectors.specs.PlainElements.{tag_shown, element_shown}
use Rattle.lol_vectors.specs.PlainNodes.{selectors_shown}
use Rattle.lol_vectors.specs.Plain.{answer_shown}
use Rattle.lol_vectors.specs.PlainTries.{is_tried_in, is_tried_open_in}
use Rattle.lol_vectors.specs.declared.plain_element.PlainElement.{PlainElement}
use Rattle.lol_vectors.proofs.plain.start.Goals as goal
use Rattle.lol_vectors.proofs.plain.start.Goals.{then-asked, else-asked, then-dropped, else-dropped+in_ok-told}

pub returns-clause-answer : goal.returns-clause-answer
returns-clause-answer c =
    let s = selectors_shown false c.args.nodes.now in
    let esi = c.args.enable_esi_tags in
    let e = element_shown c.args.element in
    let elements = c.args.document.now.open_elements.items in
    let outer = map element_shown elements in
    let told = answers.Started (answers.report s esi e outer) (answers.asks s e outer) (answers.name_tries s e outer) (answers.attribute_tries s e outer) in
    let asked : c.in_ok-asked.asked ≡ answers.asks s e outer = c.in_ok-asked.ensures ∙ ap (λ (es : List PlainElement). answers.asks s e (map element_shown es)) c.deref.ensures.value in
    let dropped : c.if-asked.dropped ≡ answers.is_dropped s e outer = elim c.if-asked.branch [
      | then-asked w ↦ w.dropped-is ∙ ap (λ a. a && not e.tag.finish) (sym w.if-asked.true ∙ asked)
      | else-asked w ↦ w.dropped-is ∙ w.if-asked.false ∙ ap (λ a. a && not e.tag.finish) (sym w.if-asked.false ∙ asked)
    ] in
    let content = c.has_content-with_content.ensures ∙ ap (λ ns. has_content_in ns esi (tag_shown c.args.element)) (sym c.requires) in
    elim c.if-dropped.branch [
      | then-dropped w ↦ ap answer_shown w.told-is ∙ ap (λ b. cond b answers.Dropped told) (sym w.if-dropped.true ∙ dropped)
      | else-dropped+in_ok-told w ↦
          let tried : is_tried_in outer ≡ answers.is_tried s e outer = λ i node. left_matches node outer in
          ap answer_shown w.told-is ∙ w.in_ok-told.ensures
          ∙ (λ i. let around = map element_shown (w.deref-else-dropped.ensures.value i) in
          answers.Started (map (λ (id : ℕ). record { id = id; with_content = content i }) (answers.matching_ids s.pairs e around)) (asked i) (count_by (is_tried_in around) s.nodes) (count_by (is_tried_open_in e around) s.nodes))
          ∙ (λ i. answers.Started (answers.report s esi e outer) (answers.asks s e outer) (count_by (tried i) s.nodes) (count_by (λ node. tried i node && is_open (by_names (last_compound node) e)) s.nodes))
          ∙ ap (λ b. cond b answers.Dropped told) (sym w.if-dropped.false ∙ dropped)
    ]
