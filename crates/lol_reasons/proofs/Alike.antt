-- Selectors with the same nodes, under other ids.
use Rattle.std.proofs.Common.{◌≡◌, ℕ, Bool, true, false, cond, List, [], ◌∷◌, length, refl, ap, ◌∙◌}
use Rattle.std.specs.Prelude.{max}
use Rattle.lol_base.specs.StartTags.{StartTag}
use Rattle.lol_instructions.specs.Tests.{Element}
use Rattle.lol_program.specs.Asts.{is_with_rows}
use Rattle.lol_program.specs.ClosedLaws.{trees_are_closed}
use Rattle.lol_program.specs.Paths.{Selectors}
use Rattle.lol_machine.specs.AnswerLaws as laws
use Rattle.lol_machine.specs.Answers.{Answer, Started, Dropped, after, answer, asks, attribute_tries, document_from, is_dropped, name_tries, report}
use Rattle.lol_machine.specs.Documents.{Document, element_of, empty}
use Rattle.lol_machine.specs.Events.{Event, Start, End}
use Rattle.lol_machine.specs.Laws.{SameSelectors}
use Rattle.lol_machine.specs.Refusals.{Allowance, longest_from, or_later, refusal, refused_from}
use Rattle.lol_reasons.specs.NumberingLaws.{GoesAlike, NodesDecideTheRest, NumbersChangeNoNode, RunsAlike, SameNodes, reporting}

module _ (s t : Selectors) (same : SameNodes s t) (esi : Bool) where
  -- the pairs of one over the nodes of the other
  abbrev between : Selectors
  between = record { pairs = t.pairs; nodes = s.nodes; by_keys = s.by_keys }

  same_between : SameSelectors between t
  same_between = record { pairs = λ x. (λ h. h, λ h. h); nodes = same.members; each_once = same.each_once; each_once' = same.each_once'; mode = same.mode }

  same_asks : (e : Element) (outer : List Element) → asks s e outer ≡ asks t e outer
  same_asks e outer = laws.same_asks between t same_between esi e outer

  same_after : (d : Document) (event : Event) → after s esi d event ≡ after t esi d event
  same_after d (Start tag) = laws.after_same between t same_between esi d (Start tag)
  same_after d (End name) = refl

  same_start : (d : Document) (tag : StartTag) → answer s esi d (Start tag) ≡ reporting (report s esi (element_of d tag) d.open_elements) (answer t esi d (Start tag))
  same_start d tag =
      by_test (is_dropped s e d.open_elements)
      ∙ ap (reporting (report s esi e d.open_elements))
      (laws.same_answer between t esi (λ e' outer. refl) same_asks (laws.same_tried between t same_between esi) (laws.same_tries between t same_between esi) d (Start tag))
    where
      e : Element
      e = element_of d tag

      told : Selectors → Answer
      told u = Started (report u esi e d.open_elements) (asks s e d.open_elements) (name_tries s e d.open_elements) (attribute_tries s e d.open_elements)

      by_test : (b : Bool) → cond b Dropped (told s) ≡ reporting (report s esi e d.open_elements) (cond b Dropped (told t))
      by_test true = refl
      by_test false = refl

  same_refusal : (a : Allowance) (d : Document) (most : ℕ) (event : Event) → refusal s esi a d most event ≡ refusal t esi a d most event
  same_refusal a d most (Start tag) = laws.same_refusal between t same_between esi a d most (Start tag)
  same_refusal a d most (End name) = refl

  goes_alike : GoesAlike s t esi
  goes_alike = record { asked = same_asks; done = same_after; started = same_start; refusals = same_refusal }

  same_documents : (d : Document) (events : List Event) → document_from s esi d events ≡ document_from t esi d events
  same_documents d [] = refl
  same_documents d (event ∷ events) = ap (λ next. document_from s esi next events) (same_after d event) ∙ same_documents (after t esi d event) events

  same_longest : (d : Document) (events : List Event) → longest_from s esi d events ≡ longest_from t esi d events
  same_longest d [] = refl
  same_longest d (event ∷ events) =
      ap (max (length d.open_elements)) (ap (λ next. longest_from s esi next events) (same_after d event) ∙ same_longest (after t esi d event) events)

  same_refused : (a : Allowance) (d : Document) (most : ℕ) (events : List Event) → refused_from s esi a d most events ≡ refused_from t esi a d most events
  same_refused a d most [] = refl
  same_refused a d most (event ∷ events) =
      (λ i. or_later d.events (same_refusal a d most event i) (refused_from s esi a (same_after d event i) (max most (length (same_after d event i).open_elements)) events))
      ∙ ap (or_later d.events (refusal t esi a d most event)) (same_refused a (after t esi d event) (max most (length (after t esi d event).open_elements)) events)

  runs_alike : (events : List Event) → RunsAlike s t esi events
  runs_alike events = record {
    documents = same_documents empty events;
    longest_is = same_longest empty events;
    refused_is = λ a. same_refused a empty 0 events;
  }

pub nodes_decide_the_rest : NodesDecideTheRest
nodes_decide_the_rest s t same esi = (goes_alike s t same esi, runs_alike s t same esi)

pub numbers_change_no_node : NumbersChangeNoNode
numbers_change_no_node texts numbering holds s nodes once mode = record {
  members = λ path. (λ h. (holds.nodes path).0 ((nodes path).1 h), λ h. (nodes path).0 ((holds.nodes path).1 h));
  each_once = once;
  each_once' = (trees_are_closed (is_with_rows numbering.ast) numbering.ast).once;
  mode = mode;
}
