-- Laws of keys, and of what is tried by them.
use Rattle.std.specs.Prelude.{ℕ, [], ◌∷◌, ◌≡◌, ◌≢◌, ◌≤◌, ◌+◌, Bool, true, false, not, ◌&&◌, ◌||◌, List, filter, count_by, sum_by, AllPairs}
use Rattle.std.specs.List.{list_any}
use Rattle.lol_base.specs.StartTags.{Attribute}
use Rattle.lol_instructions.specs.Tests.{Element, is_html}
use Rattle.lol_instructions.specs.Compounds.{with_rest}
use Rattle.lol_program.specs.Paths.{Path, Selectors}
use Rattle.lol_program.specs.Sets.{SameMembers}
use Rattle.lol_machine.specs.Matching.{matches, left_matches}
use Rattle.lol_machine.specs.Events.{Event}
use Rattle.lol_machine.specs.Documents.{Document}
use Rattle.lol_machine.specs.KeyTries.{AreRight, node_keys, is_left_by_name, asks_at_once, is_tried_by_keys, name_tries_by_keys, tries_attributes_by_keys, attribute_tries_by_keys}
use Rattle.lol_machine.specs.Answers.{Answer, Started, Dropped, Ended, answers, answers_from, document, matching_ids, name_tries, attribute_tries, needs_attributes, asks}
use Rattle.lol_machine.specs.Refusals.{Allowance, refused}
use Rattle.lol_machine.specs.Laws.{in_mode}
use Rattle.lol_instructions.specs.Keys.{Keys, no_keys}
use Rattle.lol_reasons.specs.Calls.{all_name_tries, all_attribute_tries, name_counted, attribute_counted, needs_them, calls, answers_by_keys_from}

-- A node that matches is tried, with whatever right keys. So nothing that is reported or opened is lost.
abbrev pub MatchingNodesAreTried : Type 0
MatchingNodesAreTried =
    (keys : Path → Keys) → AreRight keys → (nodes : List Path) (e : Element) (outer : List Element) (path : Path)
    → matches path e outer ≡ true → is_tried_by_keys keys nodes e outer path ≡ true

-- The pairs whose path is tried give the same ids.
abbrev pub TriedPairsGiveIds : Type 0
TriedPairsGiveIds =
    (keys : Path → Keys) → AreRight keys → (nodes : List Path) (pairs : List (Path × ℕ)) (e : Element) (outer : List Element)
    → matching_ids (filter (λ pair. is_tried_by_keys keys nodes e outer pair.0) pairs) e outer ≡ matching_ids pairs e outer

-- The nodes that the name leaves ask for attributes exactly where all do.
abbrev pub NamesKeepAsks : Type 0
NamesKeepAsks =
    (keys : Path → Keys) → AreRight keys → (s : Selectors) (e : Element) (outer : List Element)
    → (not (is_html e.tag.namespace) || list_any (needs_attributes e outer) (filter (is_left_by_name keys e outer) s.nodes)) ≡ asks s e outer

-- Attributes are asked for exactly if they are at once, or some node that is tried is open.
abbrev pub AsksByTries : Type 0
AsksByTries =
    (keys : Path → Keys) → AreRight keys → (s : Selectors) (e : Element) (outer : List Element)
    → (asks_at_once keys s.nodes e outer || list_any (tries_attributes_by_keys keys s.nodes e outer) s.nodes) ≡ asks s e outer

-- What is decided before attributes doesn't look at the rest of the tag.
abbrev pub FirstStepSeesNoRest : Type 0
FirstStepSeesNoRest =
    (keys : Path → Keys) (nodes : List Path) (e : Element) (outer : List Element) (attributes : List Attribute) (self_closing finish : Bool)
    → (asks_at_once keys nodes (with_rest e attributes self_closing finish) outer ≡ asks_at_once keys nodes e outer)
    × ((node : Path) → is_left_by_name keys (with_rest e attributes self_closing finish) outer node ≡ is_left_by_name keys e outer node)

-- Each of the two counts is at most the one without keys.
abbrev pub TriesAreAtMost : Type 0
TriesAreAtMost =
    (keys : Path → Keys) (nodes : List Path) (e : Element) (outer : List Element)
    → (name_tries_by_keys keys nodes e outer ≤ all_name_tries nodes outer)
    × (attribute_tries_by_keys keys nodes e outer ≤ all_attribute_tries nodes e outer)

-- and what is missing are the nodes that keys rule out
abbrev pub TriesAndSparedAreAll : Type 0
TriesAndSparedAreAll =
    (keys : Path → Keys) (nodes : List Path) (e : Element) (outer : List Element)
    → (name_tries_by_keys keys nodes e outer
    + count_by (λ node. left_matches node outer && not (is_tried_by_keys keys nodes e outer node)) nodes ≡ all_name_tries nodes outer)
    × (attribute_tries_by_keys keys nodes e outer
    + count_by (λ node. needs_attributes e outer node && not (is_tried_by_keys keys nodes e outer node)) nodes ≡ all_attribute_tries nodes e outer)

-- The counts are those of the calls that are made, and a call needs attributes exactly where they are asked for or were given at once.
abbrev pub CallsAreCounted : Type 0
CallsAreCounted =
    (keys : Path → Keys) (nodes : List Path) (e : Element) (outer : List Element)
    → (sum_by name_counted (calls keys nodes e outer) ≡ name_tries_by_keys keys nodes e outer)
    × (sum_by (attribute_counted e) (calls keys nodes e outer) ≡ attribute_tries_by_keys keys nodes e outer)

abbrev pub CallsAskWhereAsked : Type 0
CallsAskWhereAsked =
    (keys : Path → Keys) → AreRight keys → (s : Selectors) (e : Element) (outer : List Element)
    → (asks_at_once keys s.nodes e outer || list_any needs_them (calls keys s.nodes e outer)) ≡ asks s e outer

-- The order of the nodes changes no count.
abbrev pub OrderChangesNoTries : Type 0
OrderChangesNoTries =
    (keys : Path → Keys) (xs ys : List Path) → SameMembers ys xs → AllPairs (λ a b. a ≢ b) xs → AllPairs (λ a b. a ≢ b) ys
    → (e : Element) (outer : List Element)
    → (name_tries_by_keys keys xs e outer ≡ name_tries_by_keys keys ys e outer)
    × (attribute_tries_by_keys keys xs e outer ≡ attribute_tries_by_keys keys ys e outer)

-- By no keys the counts are those without keys.
abbrev pub NoKeysAreExact : Type 0
NoKeysAreExact =
    (nodes : List Path) (e : Element) (outer : List Element)
    → (name_tries_by_keys (λ node. no_keys) nodes e outer ≡ all_name_tries nodes outer)
    × (attribute_tries_by_keys (λ node. no_keys) nodes e outer ≡ all_attribute_tries nodes e outer)

-- the same answer, but for counts, which are at most the other's
abbrev pub Spares : Answer → Answer → Type 0
Spares (Started matched asked names attributes) (Started matched' asked' names' attributes') =
    (matched ≡ matched') × (asked ≡ asked') × (names ≤ names') × (attributes ≤ attributes')
Spares Dropped Dropped = Unit {0}
Spares (Ended closed) (Ended closed') = closed ≡ closed'
Spares _ _ = ⊥

abbrev pub AllSpare : List Answer → List Answer → Type 0
AllSpare [] [] = Unit {0}
AllSpare (a ∷ more) (b ∷ others) = Spares a b × AllSpare more others
AllSpare _ _ = ⊥

-- Answer for answer to any events: the same as without keys, with counts that are at most those.
abbrev pub AnswersAreSparing : Type 0
AnswersAreSparing =
    (keys : Path → Keys) (s : Selectors) (esi : Bool) (d : Document) (events : List Event)
    → AllSpare (answers_by_keys_from keys s esi d events) (answers_from (in_mode false s) esi d events)

-- Selectors whose nodes are spared count by `node_keys`, and those whose nodes aren't count without keys.
abbrev pub ModesCountTries : Type 0
ModesCountTries =
    (s : Selectors) (e : Element) (outer : List Element)
    → (name_tries (in_mode true s) e outer ≡ name_tries_by_keys node_keys s.nodes e outer)
    × (attribute_tries (in_mode true s) e outer ≡ attribute_tries_by_keys node_keys s.nodes e outer)
    × (name_tries (in_mode false s) e outer ≡ all_name_tries s.nodes outer)
    × (attribute_tries (in_mode false s) e outer ≡ all_attribute_tries s.nodes e outer)

-- So the former answer by `node_keys`, and the latter by no keys.
abbrev pub ModesAnswerByKeys : Type 0
ModesAnswerByKeys =
    (s : Selectors) (esi : Bool) (d : Document) (events : List Event)
    → (answers_from (in_mode true s) esi d events ≡ answers_by_keys_from node_keys s esi d events)
    × (answers_from (in_mode false s) esi d events ≡ answers_by_keys_from (λ node. no_keys) s esi d events)

-- The two modes answer alike, but for the counts of tries, which with keys are at most those without: the documents are the same, and the
-- same event of a run is refused, for the same cause.
abbrev pub ModesAnswerAlike : Type 0
ModesAnswerAlike =
    (s : Selectors) (esi : Bool) (events : List Event)
    → AllSpare (answers (in_mode true s) esi events) (answers (in_mode false s) esi events)
    × (document (in_mode true s) esi events ≡ document (in_mode false s) esi events)
    × ((a : Allowance) → refused (in_mode true s) esi a events ≡ refused (in_mode false s) esi a events)
