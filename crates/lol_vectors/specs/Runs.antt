-- Runs of selectors that are read from texts, to compute the definitions on.
use Rattle.std.specs.Prelude.{ℕ, Bool, true, false, List, [], ◌∷◌, ◌++◌, map, Some, Result, Ok, Err}
use Rattle.lol_base.specs.StartTags.{Attribute}
use Rattle.lol_base.specs.declared.namespace.Namespace.{Namespace}
use Rattle.lol_base.specs.declared.namespace.Namespace.TheVariants.{Html}
use Rattle.lol_css.specs.Accepting.{accept}
use Rattle.lol_css.specs.Trees.{Items}
use Rattle.lol_css.specs.declared.error.SelectorError.{SelectorError}
use Rattle.lol_program.specs.Paths.{Path, Selectors}
use Rattle.lol_program.specs.Nodes.{selectors_of}
use Rattle.lol_program.specs.Conditions.{pairs_under}
use Rattle.lol_machine.specs.Events.{Event, Start}
use Rattle.lol_machine.specs.Answers.{Answer, Started, Dropped, Ended, Match, answers}

-- 1. Selectors

abbrev pub pairs_of_list : ℕ → Result Items SelectorError → List (Path × ℕ)
pairs_of_list id (Ok items) = pairs_under id items
pairs_of_list id (Err cause) = []

-- the pairs of texts, each of which is added under an id
abbrev pub pairs_read : List (List ℕ × ℕ) → List (Path × ℕ)
pairs_read [] = []
pairs_read (row ∷ rows) = pairs_of_list row.1 (accept row.0) ++ pairs_read rows

abbrev pub looked_for : List (List ℕ × ℕ) → Selectors
looked_for rows = selectors_of (pairs_read rows)

-- 2. Tags

-- a start tag whose attributes are handed over where they are asked for, and one whose aren't
abbrev pub start_with : Namespace → List ℕ → List Attribute → Event
start_with namespace name attributes =
    Start (record { name = name; namespace = namespace; attributes = attributes; self_closing = false; finish = true })

abbrev pub start_in : Namespace → List ℕ → Event
start_in namespace name = start_with namespace name []

abbrev pub start : List ℕ → Event
start name = start_in Html name

abbrev pub self_closing_in : Namespace → List ℕ → Event
self_closing_in namespace name =
    Start (record { name = name; namespace = namespace; attributes = []; self_closing = true; finish = true })

abbrev pub unfinished_in : Namespace → List ℕ → Event
unfinished_in namespace name =
    Start (record { name = name; namespace = namespace; attributes = []; self_closing = false; finish = false })

abbrev pub written : List ℕ → List ℕ → Attribute
written name value = record { name = name; value = Some value }

-- 3. Answers

abbrev pub with_content : ℕ → Match
with_content id = record { id = id; with_content = true }

abbrev pub without_content : ℕ → Match
without_content id = record { id = id; with_content = false }

-- the ids that a start tag is reported under, or the elements that an end tag closes
abbrev pub numbers : Answer → List ℕ
numbers (Started matched asked name_tries attribute_tries) = map (λ (m : Match). m.id) matched
numbers Dropped = []
numbers (Ended closed) = closed

-- whether a start tag's attributes were asked for and handed over
abbrev pub was_asked : Answer → Bool
was_asked (Started matched asked name_tries attribute_tries) = asked
was_asked Dropped = false
was_asked (Ended closed) = false

-- the numbers of each tag, for texts under ids
abbrev pub told : List (List ℕ × ℕ) → List Event → List (List ℕ)
told rows events = map numbers (answers (looked_for rows) false events)
