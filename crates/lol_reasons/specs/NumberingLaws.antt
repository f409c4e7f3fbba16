-- Selectors whose items stand under their numbers, beside those with the ids that the texts were added under.
use Rattle.std.specs.Prelude.{ℕ, ◌≡◌, ◌≢◌, Bool, List, map, filter, filter_map, slice_get, AllPairs}
use Rattle.lol_base.specs.StartTags.{StartTag}
use Rattle.lol_instructions.specs.Tests.{Element}
use Rattle.lol_program.specs.Asts.{is_with_rows}
use Rattle.lol_program.specs.Paths.{Selectors, all_beginnings}
use Rattle.lol_program.specs.Sets.{SameMembers}
use Rattle.lol_machine.specs.Answers.{Answer, Match, Started, Dropped, Ended, after, answer, asks, document, matching_ids, report}
use Rattle.lol_machine.specs.Documents.{Document, element_of}
use Rattle.lol_machine.specs.Events.{Event, Start}
use Rattle.lol_machine.specs.Matching.{matches}
use Rattle.lol_machine.specs.Refusals.{Allowance, longest, refusal, refused}
use Rattle.lol_machine.specs.Views.{selectors}
use Rattle.lol_reasons.specs.Explanations.{Text, added_by, pairs_added}
use Rattle.lol_reasons.specs.Numbered.{HasItemsOf, HoldsItems}
use Rattle.lol_reasons.specs.ReasonLaws.{source_of_added}
use Rattle.lol_reasons.specs.declared.texts.Numbering.{Numbering}

-- The same nodes, each once, in any order, spared by keys or not; the pairs may be others.
pub record SameNodes (s t : Selectors) : Type 0 where
  pub members : SameMembers t.nodes s.nodes
  pub each_once : AllPairs (λ a b. a ≢ b) s.nodes
  pub each_once' : AllPairs (λ a b. a ≢ b) t.nodes
  pub mode : s.by_keys ≡ t.by_keys

-- an answer that reports this instead
abbrev pub reporting : List Match → Answer → Answer
reporting matched (Started others asked name_tries attribute_tries) = Started matched asked name_tries attribute_tries
reporting matched Dropped = Dropped
reporting matched (Ended closed) = Ended closed

-- Whatever came before, an event does the same to the document, asks for the same, and is refused alike; it is answered alike but for
-- what is reported.
pub record GoesAlike (s t : Selectors) (esi : Bool) : Type 0 where
  pub asked : (e : Element) (outer : List Element) → asks s e outer ≡ asks t e outer
  pub done : (d : Document) (event : Event) → after s esi d event ≡ after t esi d event
  pub started : (d : Document) (tag : StartTag)
      → answer s esi d (Start tag) ≡ reporting (report s esi (element_of d tag) d.open_elements) (answer t esi d (Start tag))
  pub refusals : (a : Allowance) (d : Document) (most : ℕ) (event : Event) → refusal s esi a d most event ≡ refusal t esi a d most event

-- Over any events two selectors come to the same document, in which as many elements were open, and the same event is refused.
pub record RunsAlike (s t : Selectors) (esi : Bool) (events : List Event) : Type 0 where
  pub documents : document s esi events ≡ document t esi events
  pub longest_is : longest s esi events ≡ longest t esi events
  pub refused_is : (a : Allowance) → refused s esi a events ≡ refused t esi a events

-- Selectors with the same nodes answer alike but for what they report.
abbrev pub NodesDecideTheRest : Type 0
NodesDecideTheRest = (s t : Selectors) → SameNodes s t → (esi : Bool) → GoesAlike s t esi × ((events : List Event) → RunsAlike s t esi events)

-- A tree in which the items of texts stand under their numbers has the nodes of those texts.
abbrev pub NumbersChangeNoNode : Type 0
NumbersChangeNoNode =
    (texts : List Text) (numbering : Numbering) → HoldsItems (added_by texts) numbering
    → (s : Selectors) → SameMembers s.nodes (all_beginnings (pairs_added (added_by texts))) → AllPairs (λ a b. a ≢ b) s.nodes
    → s.by_keys ≡ is_with_rows numbering.ast
    → SameNodes s (selectors numbering.ast)

-- The numbers that are reported name exactly the items that match, by id, text and item, in the order of adding.
abbrev pub NumbersNameWhatMatches : Type 0
NumbersNameWhatMatches =
    (texts : List Text) (s : Selectors) → HasItemsOf texts s → (e : Element) (outer : List Element)
    → filter_map (slice_get (map source_of_added (added_by texts))) (matching_ids s.pairs e outer)
    ≡ map source_of_added (filter (λ a. matches a.path e outer) (added_by texts))
