-- Why an element is reported.
use Rattle.std.specs.Prelude.{ℕ, ◌+◌, Bool, if◌then◌else◌, List, [], ◌∷◌, ◌++◌, map, filter_map, Option}
use Rattle.std.specs.Option.{option_map}
use Rattle.lol_css.specs.Trees.{Items}
use Rattle.lol_instructions.specs.Tests.{Element}
use Rattle.lol_program.specs.Paths.{Path, Selectors}
use Rattle.lol_program.specs.Conditions.{paths_of}
use Rattle.lol_machine.specs.Events.{Event, Start, End}
use Rattle.lol_machine.specs.Documents.{Document, empty, element_of}
use Rattle.lol_machine.specs.Answers.{is_dropped, after}
use Rattle.lol_reasons.specs.Witnesses.{innermost_witness}

-- 1. Selectors with their texts and items

-- A selector text that was added under an id: the items of its list.
pub record Text : Type 0 where
  pub id : ℕ
  pub items : Items

-- A path that was added: its id, the number of its text in the order of adding, and its number among the text's items, both from 0.
pub record Added : Type 0 where
  pub path : Path
  pub id : ℕ
  pub text : ℕ
  pub item : ℕ

abbrev pub added_items : (id text item : ℕ) → List Path → List Added
added_items id text item [] = []
added_items id text item (path ∷ paths) =
    record { path = path; id = id; text = text; item = item } ∷ added_items id text (item + 1) paths

abbrev pub added_from : ℕ → List Text → List Added
added_from text [] = []
added_from text (t ∷ texts) = added_items t.id text 0 (paths_of t.items) ++ added_from (text + 1) texts

-- What texts add, in their order.
abbrev pub added_by : List Text → List Added
added_by texts = added_from 0 texts

-- the pairs of what was added
abbrev pub pairs_added : List Added → List (Path × ℕ)
pairs_added added = map (λ a. (a.path, a.id)) added

-- 2. Reasons

-- Why an id is reported: the number of a selector text, the number of an item in its list, and the start tags whose elements the item's
-- compounds are passed by, the last compound's first.
pub record Reason : Type 0 where
  pub id : ℕ
  pub text : ℕ
  pub item : ℕ
  pub witness : List ℕ

abbrev pub reason_by : Added → List ℕ → Reason
reason_by a witness = record { id = a.id; text = a.text; item = a.item; witness = witness }

abbrev pub reason_of : Element → List Element → Added → Option Reason
reason_of e outer a = option_map (reason_by a) (innermost_witness a.path e outer)

-- The reasons for an element: one for each item that matches, in the order of adding.
abbrev pub reasons : List Added → Element → List Element → List Reason
reasons added e outer = filter_map (reason_of e outer) added

-- 3. The reasons of a run

-- The reasons for an event: those for the element of a start tag, unless it is dropped; an end tag has none.
abbrev pub reasons_at : Selectors → List Added → Document → Event → List Reason
reasons_at s added d (Start tag) =
    if is_dropped s (element_of d tag) d.open_elements then [] else reasons added (element_of d tag) d.open_elements
reasons_at s added d (End name) = []

-- those for events, from what has come before
abbrev pub explanations_from : Selectors → Bool → List Added → Document → List Event → List (List Reason)
explanations_from s esi added d [] = []
explanations_from s esi added d (event ∷ events) =
    reasons_at s added d event ∷ explanations_from s esi added (after s esi d event) events

-- The reasons for each of a list of events.
abbrev pub explanations : Selectors → Bool → List Added → List Event → List (List Reason)
explanations s esi added events = explanations_from s esi added empty events
