-- What documents and answers are after more events, and of selectors that answer alike.
use Rattle.std.proofs.Common.{◌≡◌, Bool, List, [], ◌∷◌, ◌++◌, ◌+◌, length, refl, ap, ◌∙◌, arith, ℕ, ◌&&◌, not, cond, map, ◌||◌}
use Rattle.std.specs.List.{list_any}
use Rattle.lol_instructions.specs.Compounds.{by_names, is_open}
use Rattle.lol_machine.specs.KeyTries.{is_left, is_left_open, node_keys}
use Rattle.std.specs.Prelude.{max, count_by, nat_lt, Some, None}
use Rattle.lol_program.specs.Paths.{Selectors, Path, last_compound}
use Rattle.lol_machine.specs.Answers.{Answer, after, answer, answers_from, attribute_tries, document_from, is_tried, is_tried_open, Started, Dropped, matching_ids, name_tries, needs_attributes, asks, report}
use Rattle.lol_machine.specs.Documents.{Document, element_of, after_start, empty}
use Rattle.lol_machine.specs.Events.{Event, Start, End, has_content}
use Rattle.lol_machine.specs.Refusals.{longest_from, Allowance, Limit, Counter, exceeds, greatest_count, refusal, or_later, refused_from}
use Rattle.lol_instructions.specs.Tests.{Element, is_html}
use Rattle.lol_machine.specs.Matching.{left_matches}
use Rattle.lol_base.specs.BoolLaws.{same_bool}
use Rattle.lol_base.specs.MemberLaws.{among_too, distinct_from_pairs, passes_too, same_count}
use Rattle.lol_machine.specs.Laws.{SameSelectors, OrderChangesNothing}
use Rattle.lol_machine.specs.ReportLaws.{matching_ids-same}

-- the answer to a start tag of an element, by whether it is dropped
abbrev pub started_if : Selectors → Bool → Element → List Element → Bool → Answer
started_if s esi e outer dropped = cond dropped Dropped (Started (report s esi e outer) (asks s e outer) (name_tries s e outer) (attribute_tries s e outer))

-- 1. More events

module _ (s : Selectors) (esi : Bool) where
  pub document_push : (d : Document) (before : List Event) (event : Event) → document_from s esi d (before ++ event ∷ []) ≡ after s esi (document_from s esi d before) event
  document_push d [] event = refl
  document_push d (e ∷ before) event = document_push (after s esi d e) before event

  -- the most elements that were open
  pub longest_push : (d : Document) (events : List Event) (event : Event) → longest_from s esi d (events ++ event ∷ []) ≡ max (longest_from s esi d events) (length (after s esi (document_from s esi d events) event).open_elements)
  longest_push d [] event = refl
  longest_push d (e ∷ events) event =
      ap (max (length d.open_elements)) (longest_push (after s esi d e) events event) ∙ omega arith

  -- the answers to later events come after those to the events before
  pub answers_append : (d : Document) (before later : List Event) → answers_from s esi d (before ++ later) ≡ answers_from s esi d before ++ answers_from s esi (document_from s esi d before) later
  answers_append d [] later = refl
  answers_append d (e ∷ before) later = ap (λ told. answer s esi d e ∷ told) (answers_append (after s esi d e) before later)

  -- each is one more
  pub events_after : (d : Document) (event : Event) → (after s esi d event).events ≡ d.events + 1
  events_after d (Start tag) = refl
  events_after d (End name) = refl

  pub events-document : (d : Document) (before : List Event) → (document_from s esi d before).events ≡ d.events + length before
  events-document d [] = omega arith
  events-document d (e ∷ before) = omega (arith, events-document (after s esi d e) before, events_after d e)

-- 2. Selectors whose pairs give the same ids, that ask for the same, try the same nodes, and have as many nodes of each kind

module _ (s t : Selectors) (esi : Bool) (same_ids : (e : Element) (outer : List Element) → matching_ids s.pairs e outer ≡ matching_ids t.pairs e outer)
    (same_asks : (e : Element) (outer : List Element) → asks s e outer ≡ asks t e outer) (same_tried : (e : Element) (outer : List Element) → is_tried s e outer ≡ is_tried t e outer)
    (same_counts : (p : Path → Bool) → count_by p s.nodes ≡ count_by p t.nodes) where
  same_names : (e : Element) (outer : List Element) → name_tries s e outer ≡ name_tries t e outer
  same_names e outer = (λ i. count_by (same_tried e outer i) s.nodes) ∙ same_counts (is_tried t e outer)

  same_attributes : (e : Element) (outer : List Element) → attribute_tries s e outer ≡ attribute_tries t e outer
  same_attributes e outer = (λ i. count_by (λ node. same_tried e outer i node && is_open (by_names (last_compound node) e)) s.nodes) ∙ same_counts (is_tried_open t e outer)

  pub same_answer : (d : Document) (event : Event) → answer s esi d event ≡ answer t esi d event
  same_answer d (Start tag) =
      let e = element_of d tag in
      let outer = d.open_elements in
      λ i. cond (same_asks e outer i && not tag.finish) Dropped
      (Started (map (λ (id : ℕ). record { id = id; with_content = has_content esi tag }) (same_ids e outer i)) (same_asks e outer i) (same_names e outer i) (same_attributes e outer i))
  same_answer d (End name) = refl

  pub same_after : (d : Document) (event : Event) → after s esi d event ≡ after t esi d event
  same_after d (Start tag) = λ i. after_start d tag (has_content esi tag && not (same_asks (element_of d tag) d.open_elements i && not tag.finish))
  same_after d (End name) = refl

  pub same_answers : (d : Document) (events : List Event) → answers_from s esi d events ≡ answers_from t esi d events
  same_answers d [] = refl
  same_answers d (event ∷ events) =
      (λ i. same_answer d event i ∷ answers_from s esi (same_after d event i) events)
      ∙ ap (λ more. answer t esi d event ∷ more) (same_answers (after t esi d event) events)

-- 3. The order of pairs and nodes

module _ (s t : Selectors) (same : SameSelectors s t) (esi : Bool) where
  module _ (e : Element) (outer : List Element) where
    same_ids : matching_ids s.pairs e outer ≡ matching_ids t.pairs e outer
    same_ids = matching_ids-same e outer s.pairs t.pairs (among_too s.pairs t.pairs (λ p. (same.pairs p).0)) (among_too t.pairs s.pairs (λ p. (same.pairs p).1))

    pub same_asks : asks s e outer ≡ asks t e outer
    same_asks =
        ap (λ b. not (is_html e.tag.namespace) || b)
        (same_bool _ _ (passes_too (needs_attributes e outer) s.nodes t.nodes (λ n. (same.nodes n).0)) (passes_too (needs_attributes e outer) t.nodes s.nodes (λ n. (same.nodes n).1)))

  same_any : (p : Path → Bool) → list_any p s.nodes ≡ list_any p t.nodes
  same_any p = same_bool _ _ (passes_too p s.nodes t.nodes (λ n. (same.nodes n).0)) (passes_too p t.nodes s.nodes (λ n. (same.nodes n).1))

  pub same_tried : (e : Element) (outer : List Element) → is_tried s e outer ≡ is_tried t e outer
  same_tried e outer =
      λ i node. cond (same.mode i) (is_left node_keys (not (is_html e.tag.namespace) || same_any (is_left_open node_keys e outer) i) e outer node) (left_matches node outer)

  pub same_tries : (p : Path → Bool) → count_by p s.nodes ≡ count_by p t.nodes
  same_tries p = same_count p s.nodes t.nodes (distinct_from_pairs s.nodes same.each_once) (distinct_from_pairs t.nodes same.each_once') (among_too s.nodes t.nodes (λ n. (same.nodes n).0)) (among_too t.nodes s.nodes (λ n. (same.nodes n).1))

  pub after_same : (d : Document) (event : Event) → after s esi d event ≡ after t esi d event
  after_same = same_after s t esi same_ids same_asks same_tried same_tries

  pub same_refusal : (a : Allowance) (d : Document) (most : ℕ) (event : Event) → refusal s esi a d most event ≡ refusal t esi a d most event
  same_refusal a d most (Start tag) =
      λ i. cond (nat_lt greatest_count (element_of d tag).position) (Some Counter) (cond (exceeds a (max most (length (after_same d (Start tag) i).open_elements))) (Some Limit) None)
  same_refusal a d most (End name) = refl

  same_refused : (a : Allowance) (d : Document) (most : ℕ) (events : List Event) → refused_from s esi a d most events ≡ refused_from t esi a d most events
  same_refused a d most [] = refl
  same_refused a d most (event ∷ events) =
      (λ i. or_later d.events (same_refusal a d most event i) (refused_from s esi a (after_same d event i) (max most (length (after_same d event i).open_elements)) events))
      ∙ ap (or_later d.events (refusal t esi a d most event)) (same_refused a (after t esi d event) (max most (length (after t esi d event).open_elements)) events)

pub order_changes_nothing : OrderChangesNothing
order_changes_nothing s t same esi events = (same_answers s t esi (same_ids s t same esi) (same_asks s t same esi) (same_tried s t same esi) (same_tries s t same esi) empty events, λ a. same_refused s t same esi a empty 0 events)
