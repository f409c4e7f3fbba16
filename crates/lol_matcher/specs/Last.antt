-- What selectors answer to the last event that a matcher heard.
use Rattle.std.specs.Prelude.{◌≡◌, Bool, false, ◌&&◌, not, List, [], ◌∷◌, map}
use Rattle.lol_instructions.specs.Tries.{names_counted, attributes_counted}
use Rattle.lol_instructions.specs.declared.tries.Tries.{Tries}
use Rattle.lol_memory.specs.declared.match_info.MatchInfo.{MatchInfo}
use Rattle.lol_program.specs.Paths.{Selectors}
use Rattle.lol_machine.specs.Answers.{Answer, Match, Started, Dropped, Ended, after, answers, is_dropped}
use Rattle.lol_machine.specs.Documents.{Document, element_of, empty}
use Rattle.lol_machine.specs.Events.{Event, Start, End, has_content}
use Rattle.lol_machine.specs.Views.{match_of}
use Rattle.lol_matcher.specs.Told.{Told, heard}

-- the last of a list, or a given one where there is none
abbrev pub last_or : {A : Type 0} → A → List A → A
last_or given [] = given
last_or given (x ∷ xs) = last_or x xs

-- What is answered to the last event. Before the first event nothing was closed.
abbrev pub last_answer : Selectors → Told → Answer
last_answer s told = last_or (Ended []) (answers s told.esi (heard told))

-- what an answer reports: an end tag, and a start tag that is dropped, are reported under nothing
abbrev pub matches_in : Answer → List Match
matches_in (Started matched asked name_tries attribute_tries) = matched
matches_in Dropped = []
matches_in (Ended closed) = []

-- So many nodes are tried for a start tag that is reported.
abbrev pub HasTries : Answer → Tries → Type 0
HasTries (Started matched asked name_tries attribute_tries) tries =
    (names_counted tries ≡ name_tries) × (attributes_counted tries ≡ attribute_tries)
HasTries Dropped tries = Unit {0}
HasTries (Ended closed) tries = Unit {0}

-- whether an event opens an element
abbrev pub opens_by : Selectors → Bool → Document → Event → Bool
opens_by s esi d (Start tag) = has_content esi tag && not (is_dropped s (element_of d tag) d.open_elements)
opens_by s esi d (End name) = false

-- event by event, from what has come before
abbrev pub opens_from : Selectors → Bool → Document → List Event → List Bool
opens_from s esi d [] = []
opens_from s esi d (event ∷ events) = opens_by s esi d event ∷ opens_from s esi (after s esi d event) events

-- whether the last event opened an element
abbrev pub last_opens : Selectors → Told → Bool
last_opens s told = last_or false (opens_from s told.esi empty (heard told))

-- The last event is reported under these, so many nodes were tried for it, and it opened an element or not.
pub record IsLast (s : Selectors) (told : Told) (matched : List MatchInfo) (tries : Tries) (opened : Bool) : Type 0 where
  pub reported : map match_of matched ≡ matches_in (last_answer s told)
  pub tried : HasTries (last_answer s told) tries
  pub opens : opened ≡ last_opens s told
