-- What those who use the answers of a run rely on.
use Rattle.std.specs.Prelude.{ℕ, ◌≡◌, ◌≢◌, ◌↔◌, ◌⊎◌, Bool, true, false, ◌==◌, List, [], ◌∷◌, ◌++◌, map, reverse, Contains}
use Rattle.std.specs.List.{list_any}
use Rattle.lol_base.specs.Names.{same_name, is_void, is_esi}
use Rattle.lol_base.specs.StartTags.{Attribute, StartTag}
use Rattle.lol_base.specs.declared.namespace.Namespace.TheVariants.{Html}
use Rattle.lol_instructions.specs.Tests.{Element}
use Rattle.lol_program.specs.Paths.{Path, Selectors}
use Rattle.lol_program.specs.Programs.{AreClosed}
use Rattle.lol_machine.specs.Events.{Event, Start, End}
use Rattle.lol_machine.specs.Documents.{Document, empty, element_of}
use Rattle.lol_machine.specs.Matching.{matches}
use Rattle.lol_machine.specs.Answers.{Match, Answer, Started, Dropped, Ended, asks, answer, answers, after, document}

-- 1. Content marks

-- An element without content: one of HTML with a void name, with ESI on also with one of its two names; in the other namespaces one
-- whose tag closes itself.
abbrev pub HasNoContent : Bool → StartTag → Type 0
HasNoContent esi tag =
    ((tag.namespace ≡ Html) × ((is_void tag.name ≡ true) ⊎ ((esi ≡ true) × (is_esi tag.name ≡ true))))
    ⊎ ((tag.namespace ≢ Html) × (tag.self_closing ≡ true))

-- The mark of each id that a start tag is reported under is false exactly if its element has no content.
abbrev pub MarksTellContent : Type 0
MarksTellContent =
    (s : Selectors) (esi : Bool) (d : Document) (tag : StartTag) (matched : List Match) (asked : Bool) (name_tries attribute_tries : ℕ)
    → answer s esi d (Start tag) ≡ Started matched asked name_tries attribute_tries
    → (m : Match) → Contains matched m → (m.with_content ≡ false) ↔ HasNoContent esi tag

-- 2. One id

-- whether an answer reports an id
abbrev pub reports_id : ℕ → Answer → Bool
reports_id id (Started matched asked name_tries attribute_tries) = list_any (λ m. m.id == id) matched
reports_id id Dropped = false
reports_id id (Ended closed) = false

-- the same paths under an id
abbrev pub SamePathsUnder : ℕ → Selectors → Selectors → Type 0
SamePathsUnder id s t = (path : Path) → Contains s.pairs (path, id) ↔ Contains t.pairs (path, id)

-- each request of a run is finished
abbrev pub IsFinished : Selectors → Bool → List Event → Type 0
IsFinished s esi events = Contains (answers s esi events) Dropped → ⊥

-- In runs where each request is finished, the paths under an id alone say at which events it is reported.
abbrev pub OneIdsPathsDecide : Type 0
OneIdsPathsDecide =
    (s t : Selectors) (id : ℕ) → SamePathsUnder id s t → (esi : Bool) (events : List Event) → IsFinished s esi events → IsFinished t esi events
    → map (reports_id id) (answers s esi events) ≡ map (reports_id id) (answers t esi events)

-- 3. End tags

-- An end tag whose name is open closes the innermost element of that name and all inside it: those are answered, the outermost first,
-- and the elements around stay open.
pub record ClosesInside (s : Selectors) (esi : Bool) (d : Document) (name : List ℕ) (inner : List Element) (e : Element) (outer : List Element) : Type 0 where
  pub answered : answer s esi d (End name) ≡ Ended (e.number ∷ reverse (map (λ x. x.number) inner))
  pub around : (after s esi d (End name)).open_elements ≡ outer
  pub children : (after s esi d (End name)).children ≡ d.children

abbrev pub EndsCloseInside : Type 0
EndsCloseInside =
    (s : Selectors) (esi : Bool) (d : Document) (name : List ℕ) (inner : List Element) (e : Element) (outer : List Element)
    → d.open_elements ≡ inner ++ e ∷ outer → same_name e.tag.name name ≡ true → ((x : Element) → Contains inner x → same_name x.tag.name name ≡ false)
    → ClosesInside s esi d name inner e outer

-- 4. Attributes that aren't needed

abbrev pub with_attributes : StartTag → List Attribute → StartTag
with_attributes tag attributes = record { name = tag.name; namespace = tag.namespace; attributes = attributes; self_closing = tag.self_closing; finish = tag.finish }

-- whether a path matches the element of an event
abbrev pub matches_at : Path → Document → Event → Bool
matches_at path d (Start tag) = matches path (element_of d tag) d.open_elements
matches_at path d (End name) = false

-- event by event, from what has come before
abbrev pub matches_from : Selectors → Bool → Path → Document → List Event → List Bool
matches_from s esi path d [] = []
matches_from s esi path d (event ∷ events) = matches_at path d event ∷ matches_from s esi path (after s esi d event) events

-- With other attributes of one start tag, each node matches the elements of the same events, and all is answered alike.
pub record AnsweredAlike (s : Selectors) (esi : Bool) (events others : List Event) : Type 0 where
  pub matching : (node : Path) → Contains s.nodes node → matches_from s esi node empty events ≡ matches_from s esi node empty others
  pub answered : answers s esi events ≡ answers s esi others

-- Where a tag's attributes aren't asked for, no others in their place change anything.
abbrev pub UnaskedAttributesChangeNothing : Type 0
UnaskedAttributesChangeNothing =
    (s : Selectors) (esi : Bool) (before : List Event) (tag : StartTag) (attributes : List Attribute) (rest : List Event) → AreClosed s
    → asks s (element_of (document s esi before) tag) (document s esi before).open_elements ≡ false
    → AnsweredAlike s esi (before ++ Start tag ∷ rest) (before ++ Start (with_attributes tag attributes) ∷ rest)
