-- What the machine answers to a list of events.
use Rattle.std.specs.Prelude.{ℕ, Bool, not, ◌&&◌, ◌||◌, if◌then◌else◌, List, [], ◌∷◌, map, filter, count_by}
use Rattle.std.specs.List.{list_any}
use Rattle.lol_base.specs.StartTags.{StartTag}
use Rattle.lol_base.specs.Ascending.{ascending_once}
use Rattle.lol_instructions.specs.Tests.{Element, is_html}
use Rattle.lol_instructions.specs.Compounds.{by_names, is_open}
use Rattle.lol_program.specs.Paths.{Path, Selectors, last_compound}
use Rattle.lol_machine.specs.Events.{Event, Start, End, has_content}
use Rattle.lol_machine.specs.Documents.{Document, empty, element_of, closed, after_start, after_end}
use Rattle.lol_machine.specs.Matching.{left_matches, matches}
use Rattle.lol_machine.specs.KeyTries.{is_tried_by_keys, node_keys}

-- An id that an element is reported under, and whether the element has content.
pub record Match : Type 0 where
  pub id : ℕ
  pub with_content : Bool

-- The answer to an event. A start tag: what it is reported under, whether its attributes were asked for, and how many nodes were
-- tried by names and by attributes. An end tag: the elements that it closed, by their numbers, the outermost first.
pub data Answer : Type 0 where
  Started : (matched : List Match) (asked : Bool) (name_tries attribute_tries : ℕ) → Answer
  Dropped : Answer
  Ended : (closed : List ℕ) → Answer

-- 1. Reports

-- The ids of the pairs whose path matches, ascending and each once.
abbrev pub matching_ids : List (Path × ℕ) → Element → List Element → List ℕ
matching_ids pairs e outer = ascending_once (map (λ pair. pair.1) (filter (λ pair. matches pair.0 e outer) pairs))

abbrev pub report : Selectors → Bool → Element → List Element → List Match
report s esi e outer = map (λ id. record { id = id; with_content = has_content esi e.tag }) (matching_ids s.pairs e outer)

-- 2. Tries, and what needs attributes

-- A node is tried where its left part matches; of selectors whose nodes are spared by keys, where these don't rule it out besides.
abbrev pub is_tried : Selectors → Element → List Element → Path → Bool
is_tried s e outer node = if s.by_keys then is_tried_by_keys node_keys s.nodes e outer node else left_matches node outer

-- How many nodes are tried by names.
abbrev pub name_tries : Selectors → Element → List Element → ℕ
name_tries s e outer = count_by (is_tried s e outer) s.nodes

-- A node that is tried is tried by attributes too where its value by names is open.
abbrev pub is_tried_open : Selectors → Element → List Element → Path → Bool
is_tried_open s e outer node = is_tried s e outer node && is_open (by_names (last_compound node) e)

abbrev pub attribute_tries : Selectors → Element → List Element → ℕ
attribute_tries s e outer = count_by (is_tried_open s e outer) s.nodes

-- A node needs attributes where its left part matches and its value by names is open.
abbrev pub needs_attributes : Element → List Element → Path → Bool
needs_attributes e outer node = left_matches node outer && is_open (by_names (last_compound node) e)

-- Whether a tag's attributes are asked for: outside HTML always, in HTML where some node needs them.
abbrev pub asks : Selectors → Element → List Element → Bool
asks s e outer = not (is_html e.tag.namespace) || list_any (needs_attributes e outer) s.nodes

-- A start tag whose attributes are asked for and not handed over is dropped: it counts as a child, and is neither reported nor opened.
abbrev pub is_dropped : Selectors → Element → List Element → Bool
is_dropped s e outer = asks s e outer && not e.tag.finish

-- 3. Answers

abbrev pub answer : Selectors → Bool → Document → Event → Answer
answer s esi d (Start tag) =
    let e = element_of d tag in
    if is_dropped s e d.open_elements then Dropped
    else Started (report s esi e d.open_elements) (asks s e d.open_elements) (name_tries s e d.open_elements) (attribute_tries s e d.open_elements)
answer s esi d (End name) = Ended (closed name d)

abbrev pub after : Selectors → Bool → Document → Event → Document
after s esi d (Start tag) = after_start d tag (has_content esi tag && not (is_dropped s (element_of d tag) d.open_elements))
after s esi d (End name) = after_end d name

-- the answers to events, and the document after them, from what has come before
abbrev pub answers_from : Selectors → Bool → Document → List Event → List Answer
answers_from s esi d [] = []
answers_from s esi d (event ∷ events) = answer s esi d event ∷ answers_from s esi (after s esi d event) events

abbrev pub document_from : Selectors → Bool → Document → List Event → Document
document_from s esi d [] = d
document_from s esi d (event ∷ events) = document_from s esi (after s esi d event) events

-- The answers to a list of events.
abbrev pub answers : Selectors → Bool → List Event → List Answer
answers s esi events = answers_from s esi empty events

-- The document after them.
abbrev pub document : Selectors → Bool → List Event → Document
document s esi events = document_from s esi empty events

-- whether a start tag after them opens an element
abbrev pub opens : Selectors → Bool → List Event → StartTag → Bool
opens s esi events tag =
    let d = document s esi events in
    has_content esi tag && not (is_dropped s (element_of d tag) d.open_elements)
