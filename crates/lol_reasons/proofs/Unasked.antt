-- Attributes that aren't asked for.
use Rattle.std.proofs.Common.{◌≡◌, Bool, false, List, [], ◌∷◌, ◌++◌, refl, sym, ap, ◌∙◌}
use Rattle.lol_base.specs.StartTags.{Attribute, StartTag}
use Rattle.lol_program.specs.Paths.{Path, Selectors}
use Rattle.lol_program.specs.Programs.{AreClosed}
use Rattle.lol_machine.specs.Events.{Event, Start, End}
use Rattle.lol_machine.specs.Documents.{Document, empty, element_of}
use Rattle.lol_machine.specs.Matching.{matches}
use Rattle.lol_machine.specs.Answers.{asks, answer, answers_from, after, document_from}
use Rattle.lol_reasons.specs.RunLaws.{with_attributes, matches_at, matches_from, UnaskedAttributesChangeNothing}
use Rattle.lol_reasons.proofs.ToldAlike.{matched_alike, AlikeDocuments, IsNode, alike_after, same_answer, same_element, same_matches, unasked_after, unasked_answered}

-- 1. Runs from documents that no node tells apart

module _ (s : Selectors) (closed : AreClosed s) where
  module _ (esi : Bool) where
    same_answers : (d g : Document) (events : List Event) → AlikeDocuments s closed esi d g → answers_from s esi d events ≡ answers_from s esi g events
    same_answers d g [] h = refl
    same_answers d g (event ∷ events) h =
        λ i. same_answer s closed esi d g event h i ∷ same_answers (after s esi d event) (after s esi g event) events (alike_after s closed esi d g event h) i

    same_matches_at : (node : Path) → IsNode s closed node → (d g : Document) (event : Event) → AlikeDocuments s closed esi d g → matches_at node d event ≡ matches_at node g event
    same_matches_at node is d g (Start tag) h =
        ap (λ x. matches node x d.open_elements) (same_element s closed esi d g tag h) ∙ same_matches s closed (element_of g tag) h.open_elements node is
    same_matches_at node is d g (End name) h = refl

    same_matching : (node : Path) → IsNode s closed node → (d g : Document) (events : List Event) → AlikeDocuments s closed esi d g → matches_from s esi node d events ≡ matches_from s esi node g events
    same_matching node is d g [] h = refl
    same_matching node is d g (event ∷ events) h =
        λ i. same_matches_at node is d g event h i ∷ same_matching node is (after s esi d event) (after s esi g event) events (alike_after s closed esi d g event h) i

    -- 2. The tag whose attributes aren't asked for

    module _ (tag : StartTag) (attributes : List Attribute) (rest : List Event) where
      all_answered : (d : Document) (before : List Event) → asks s (element_of (document_from s esi d before) tag) (document_from s esi d before).open_elements ≡ false
          → answers_from s esi d (before ++ Start (with_attributes tag attributes) ∷ rest) ≡ answers_from s esi d (before ++ Start tag ∷ rest)
      all_answered d [] unasked =
          λ i. unasked_answered s closed esi d tag attributes tag.self_closing tag.finish unasked i
          ∷ same_answers (after s esi d (Start (with_attributes tag attributes))) (after s esi d (Start tag)) rest (unasked_after s closed esi d tag attributes tag.self_closing tag.finish unasked) i
      all_answered d (event ∷ before) unasked = ap (λ more. answer s esi d event ∷ more) (all_answered (after s esi d event) before unasked)

      all_matched : (node : Path) → IsNode s closed node → (d : Document) (before : List Event) → asks s (element_of (document_from s esi d before) tag) (document_from s esi d before).open_elements ≡ false
          → matches_from s esi node d (before ++ Start (with_attributes tag attributes) ∷ rest) ≡ matches_from s esi node d (before ++ Start tag ∷ rest)
      all_matched node is d [] unasked =
          λ i. sym (matched_alike s closed esi d tag attributes tag.self_closing tag.finish unasked node is) i
          ∷ same_matching node is (after s esi d (Start (with_attributes tag attributes))) (after s esi d (Start tag)) rest (unasked_after s closed esi d tag attributes tag.self_closing tag.finish unasked) i
      all_matched node is d (event ∷ before) unasked = ap (λ more. matches_at node d event ∷ more) (all_matched node is (after s esi d event) before unasked)

pub unasked_attributes_change_nothing : UnaskedAttributesChangeNothing
unasked_attributes_change_nothing s esi before tag attributes rest closed unasked = record {
  matching = λ node is. sym (all_matched s closed esi tag attributes rest node is empty before unasked);
  answered = sym (all_answered s closed esi tag attributes rest empty before unasked);
}
