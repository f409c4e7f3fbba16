-- Counts without keys, the calls that counts by keys come from, and the answers with these counts.
use Rattle.std.specs.Prelude.{ℕ, Bool, true, false, if◌then◌else◌, List, [], ◌∷◌, map, filter, count_by}
use Rattle.lol_instructions.specs.Tests.{Element}
use Rattle.lol_instructions.specs.Compounds.{by_names, is_open}
use Rattle.lol_instructions.specs.Keys.{Keys}
use Rattle.lol_program.specs.Paths.{Path, Selectors, last_compound}
use Rattle.lol_machine.specs.Matching.{left_matches}
use Rattle.lol_machine.specs.Events.{Event, Start, End}
use Rattle.lol_machine.specs.Documents.{Document, element_of, closed}
use Rattle.lol_machine.specs.Answers.{Answer, Started, Dropped, Ended, needs_attributes, asks, is_dropped, report, after}
use Rattle.lol_machine.specs.KeyTries.{asks_at_once, is_tried_by_keys, name_tries_by_keys, attribute_tries_by_keys}

-- 1. The counts where no node is spared

-- how many nodes have a left part that matches
abbrev pub all_name_tries : List Path → List Element → ℕ
all_name_tries nodes outer = count_by (λ node. left_matches node outer) nodes

-- and how many of these need attributes
abbrev pub all_attribute_tries : List Path → Element → List Element → ℕ
all_attribute_tries nodes e outer = count_by (needs_attributes e outer) nodes

-- 2. The calls that are made, in the order of the nodes; `keys` chooses the keys of each node

-- The three ways to run an instruction, and what each counts.
pub data Call : Type 0 where
  Without : (node : Path) → Call
  Completing : (node : Path) → Call
  With : (node : Path) → Call

abbrev pub one_if : Bool → ℕ
one_if true = 1
one_if false = 0

abbrev pub name_counted : Call → ℕ
name_counted (Without node) = 1
name_counted (Completing node) = 0
name_counted (With node) = 1

abbrev pub attribute_counted : Element → Call → ℕ
attribute_counted e (Without node) = 0
attribute_counted e (Completing node) = one_if (is_open (by_names (last_compound node) e))
attribute_counted e (With node) = one_if (is_open (by_names (last_compound node) e))

-- the calls where nothing is known of attributes yet: by names up to the first open node, which is completed with attributes; those after it
-- have them at once
abbrev pub calls_by_names : Element → List Path → List Call
calls_by_names e [] = []
calls_by_names e (node ∷ nodes) =
    Without node ∷ (if is_open (by_names (last_compound node) e) then Completing node ∷ map With nodes else calls_by_names e nodes)

abbrev pub calls_in : Bool → Element → List Path → List Call
calls_in at_once e nodes = if at_once then map With nodes else calls_by_names e nodes

-- The calls for a tag, in the order of the nodes.
abbrev pub calls : (Path → Keys) → List Path → Element → List Element → List Call
calls keys nodes e outer = calls_in (asks_at_once keys nodes e outer) e (filter (is_tried_by_keys keys nodes e outer) nodes)

-- whether a call needs attributes
abbrev pub needs_them : Call → Bool
needs_them (Without node) = false
needs_them (Completing node) = true
needs_them (With node) = true

-- 3. Answers with the counts by any keys: the document after an event is the same as without keys

abbrev pub answer_by_keys : (Path → Keys) → Selectors → Bool → Document → Event → Answer
answer_by_keys keys s esi d (Start tag) =
    let e = element_of d tag in
    if is_dropped s e d.open_elements then Dropped
    else Started (report s esi e d.open_elements) (asks s e d.open_elements)
    (name_tries_by_keys keys s.nodes e d.open_elements) (attribute_tries_by_keys keys s.nodes e d.open_elements)
answer_by_keys keys s esi d (End name) = Ended (closed name d)

abbrev pub answers_by_keys_from : (Path → Keys) → Selectors → Bool → Document → List Event → List Answer
answers_by_keys_from keys s esi d [] = []
answers_by_keys_from keys s esi d (event ∷ events) =
    answer_by_keys keys s esi d event ∷ answers_by_keys_from keys s esi (after s esi d event) events
