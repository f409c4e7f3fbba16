-- Laws of reasons.
use Rattle.std.specs.Prelude.{ℕ, ◌≡◌, ◌↔◌, Bool, List, [], ◌++◌, map, filter, flat_map, Contains, Some}
use Rattle.lol_base.specs.Ascending.{ascending_once}
use Rattle.lol_instructions.specs.Tests.{Element}
use Rattle.lol_program.specs.Paths.{Selectors}
use Rattle.lol_program.specs.Conditions.{pairs_under}
use Rattle.lol_program.specs.Sets.{SameMembers}
use Rattle.lol_machine.specs.Matching.{matches}
use Rattle.lol_machine.specs.Events.{Event}
use Rattle.lol_machine.specs.Answers.{Answer, Started, Dropped, Ended, report, answers, document}
use Rattle.lol_machine.specs.Laws.{ids_of}
use Rattle.lol_reasons.specs.Witnesses.{innermost_witness}
use Rattle.lol_reasons.specs.Explanations.{Text, Added, added_by, pairs_added, Reason, reasons, explanations, explanations_from}

-- What texts add are the pairs of their items under their ids.
abbrev pub PairsAreAdded : Type 0
PairsAreAdded = (texts : List Text) → pairs_added (added_by texts) ≡ flat_map (λ t. pairs_under t.id t.items) texts

abbrev pub ids_of_reasons : List Reason → List ℕ
ids_of_reasons rs = map (λ r. r.id) rs

-- The ids of the reasons, ascending and each once, are the report of any selectors that have these pairs.
abbrev pub ReasonsGiveReport : Type 0
ReasonsGiveReport =
    (s : Selectors) (added : List Added) → SameMembers s.pairs (pairs_added added)
    → (esi : Bool) (e : Element) (outer : List Element)
    → ascending_once (ids_of_reasons (reasons added e outer)) ≡ ids_of (report s esi e outer)

-- what a reason is for, and what was added, by id, text and item
abbrev pub source_of_reason : Reason → ℕ × ℕ × ℕ
source_of_reason r = (r.id, r.text, r.item)

abbrev pub source_of_added : Added → ℕ × ℕ × ℕ
source_of_added a = (a.id, a.text, a.item)

-- Each item that matches has one reason, and no other has any; they stand in the order of adding.
abbrev pub EachHasOneReason : Type 0
EachHasOneReason =
    (added : List Added) (e : Element) (outer : List Element)
    → map source_of_reason (reasons added e outer) ≡ map source_of_added (filter (λ a. matches a.path e outer) added)

-- A reason is that of an item that was added, with its innermost witness.
abbrev pub IsReasonOf : Element → List Element → Reason → Added → Type 0
IsReasonOf e outer r a =
    (r.id ≡ a.id) × (r.text ≡ a.text) × (r.item ≡ a.item) × (innermost_witness a.path e outer ≡ Some r.witness)

abbrev pub ReasonsAreExact : Type 0
ReasonsAreExact =
    (added : List Added) (e : Element) (outer : List Element) (r : Reason)
    → Contains (reasons added e outer) r ↔ ((a : Added) × Contains added a × IsReasonOf e outer r a)

-- the ids that a start tag is reported under; an end tag reports none
abbrev pub ids_reported : Answer → List ℕ
ids_reported (Started matched asked name_tries attribute_tries) = ids_of matched
ids_reported Dropped = []
ids_reported (Ended closed) = []

-- The reasons of a run explain all that it reports, and nothing else.
abbrev pub RunsAreExplained : Type 0
RunsAreExplained =
    (s : Selectors) (added : List Added) → SameMembers s.pairs (pairs_added added)
    → (esi : Bool) (events : List Event)
    → map (λ rs. ascending_once (ids_of_reasons rs)) (explanations s esi added events) ≡ map ids_reported (answers s esi events)

-- What comes later changes no reason that was given.
abbrev pub ReasonsStay : Type 0
ReasonsStay =
    (s : Selectors) (added : List Added) (esi : Bool) (events later : List Event)
    → explanations s esi added (events ++ later)
    ≡ explanations s esi added events ++ explanations_from s esi added (document s esi events) later
