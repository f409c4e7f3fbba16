-- What a whole script asks for, and what is written for it.
use Rattle.std.specs.Prelude.{ℕ, ◌+◌, Bool, false, true, ◌==◌, if◌then◌else◌, List, [], ◌∷◌, ◌++◌, flat_map, get_or, length, map, nat_le, take, Option, Some, None, Result, Ok, Err, codes}
use Rattle.std.specs.List.{concat, slice_split}
use Rattle.lol_css.specs.Accepting.{accept}
use Rattle.lol_base.specs.CodePoints.{line_feed}
use Rattle.lol_css.specs.Trees.{Items}
use Rattle.lol_css.specs.declared.error.SelectorError.{SelectorError}
use Rattle.lol_program.specs.Paths.{Path, Selectors}
use Rattle.lol_program.specs.Nodes.{selectors_of}
use Rattle.lol_program.specs.Conditions.{pairs_under}
use Rattle.lol_machine.specs.Events.{Event, Start, End}
use Rattle.lol_machine.specs.Answers.{after, answer}
use Rattle.lol_machine.specs.Documents.{Document, empty}
use Rattle.lol_reasons.specs.Explanations.{Reason, Text, added_by, reasons_at}
use Rattle.lol_machine.specs.Refusals.{Cause, Limit, Counter, refused}
use Rattle.lol_script.specs.Script.{Line, SetLimit, TurnEsiOn, ShowTries, ShowReasons, MakeRows, Select, StartLine, EndLine, line_at}
use Rattle.lol_script.specs.Output.{shown_answer, shown_reason, lines_of, bad_line}
use Rattle.lol_script.specs.declared.bad_line.BadLine.{BadLine}
use Rattle.lol_script.specs.declared.bad_line.Cause.TheVariants.{Form, Selector}
use Rattle.lol_script.specs.declared.program.Status.{Status}
use Rattle.lol_script.specs.declared.program.Status.TheVariants.{Good, BadLine as Bad, Refused}

-- 1. Scripts

-- A line of selectors: its number, and its text under its id.
pub record SelectLine : Type 0 where
  pub number : ℕ
  pub text : Text

-- What is asked for: the greatest usage, whether ESI is on, tries and reasons are shown, from how many nodes on there are rows if any are
-- asked for, the selectors, the tags.
pub record Script : Type 0 where
  pub limit : ℕ
  pub esi : Bool
  pub shows_tries : Bool
  pub explains : Bool
  pub rows_from : Option ℕ
  pub selects : List SelectLine
  pub events : List Event

abbrev pub empty_script : Script
empty_script = record { limit = 18446744073709551615; esi = false; shows_tries = false; explains = false; rows_from = None; selects = []; events = [] }

abbrev pub texts_in : Script → List Text
texts_in s = map (λ line. line.text) s.selects

-- the selectors under their ids
abbrev pub pairs_in : Script → List (Path × ℕ)
pairs_in s = flat_map (λ text. pairs_under text.id text.items) (texts_in s)

-- whether there are rows over so many nodes
abbrev pub makes_rows : Option ℕ → ℕ → Bool
makes_rows None nodes = false
makes_rows (Some fewest) nodes = nat_le fewest nodes

-- the selectors of a script, under their ids; their nodes are spared by keys where there are rows
abbrev pub selectors_in : Script → Selectors
selectors_in s =
    let all = selectors_of (pairs_in s) in
    record all { by_keys = makes_rows s.rows_from (length all.nodes) }

abbrev pub malformed : ℕ → Result Script BadLine
malformed number = Err (record { number = number; cause = Form })

abbrev pub with_event : Script → Event → Script
with_event s event = record s { events = s.events ++ event ∷ [] }

abbrev pub and_then : Result Script BadLine → (Script → Result Script BadLine) → Result Script BadLine
and_then (Ok s) f = f s
and_then (Err bad) f = Err bad

-- from the first tag line on, tag lines alone are good
abbrev pub unless_begun : List Event → ℕ → Result Script BadLine → Result Script BadLine
unless_begun [] number result = result
unless_begun (event ∷ events) number result = malformed number

abbrev pub with_selector : ℕ → Script → ℕ → Result Items SelectorError → Result Script BadLine
with_selector number s id (Ok items) =
    Ok (record s { selects = s.selects ++ record { number = number; text = record { id = id; items = items } } ∷ [] })
with_selector number s id (Err cause) = Err (record { number = number; cause = Selector cause })

abbrev pub with_line : ℕ → Script → Line → Result Script BadLine
with_line number s (SetLimit maximum) = unless_begun s.events number (Ok (record s { limit = maximum }))
with_line number s TurnEsiOn = unless_begun s.events number (Ok (record s { esi = true }))
with_line number s ShowTries = unless_begun s.events number (Ok (record s { shows_tries = true }))
with_line number s ShowReasons = unless_begun s.events number (Ok (record s { explains = true }))
with_line number s (MakeRows fewest) = unless_begun s.events number (Ok (record s { rows_from = Some fewest }))
with_line number s (Select id text) = unless_begun s.events number (with_selector number s id (accept text))
with_line number s (StartLine tag) = Ok (with_event s (Start tag))
with_line number s (EndLine name) = Ok (with_event s (End name))

abbrev pub with_meaning : ℕ → Script → Option Line → Result Script BadLine
with_meaning number s None = malformed number
with_meaning number s (Some line) = with_line number s line

-- an empty line is skipped
abbrev pub with_bytes : ℕ → Script → List ℕ → Result Script BadLine
with_bytes number s [] = Ok s
with_bytes number s (b ∷ bytes) = with_meaning number s (line_at (b ∷ bytes))

abbrev pub read_lines : ℕ → Script → List (List ℕ) → Result Script BadLine
read_lines number s [] = Ok s
read_lines number s (line ∷ lines) = and_then (with_bytes number s line) (λ t. read_lines (number + 1) t lines)

-- Lines end with LF and are numbered from 1. The first bad line decides.
abbrev pub read_script : List ℕ → Result Script BadLine
read_script bytes = read_lines 1 empty_script (slice_split (λ b. b == line_feed) bytes)

-- 2. Output

pub record Output : Type 0 where
  pub text : List ℕ
  pub status : Status

abbrev pub shown_cause : Cause → List ℕ
shown_cause Limit = codes "refused limit"
shown_cause Counter = codes "refused counter"

-- the number of the line of a text
abbrev pub line_number : Script → ℕ → ℕ
line_number s text = get_or (map (λ line. line.number) s.selects) text 0

-- the lines of reasons, where they are shown
abbrev pub reason_lines : Script → List Reason → List (List ℕ)
reason_lines s reasons = if s.explains then map (λ reason. shown_reason (line_number s reason.text) reason) reasons else []

-- what is written for an event: the line of its answer, and after it those of its reasons
abbrev pub text_for : Selectors → Script → Document → Event → List ℕ
text_for selectors s d event =
    lines_of (shown_answer s.shows_tries (answer selectors s.esi d event) ∷ reason_lines s (reasons_at selectors (added_by (texts_in s)) d event))

-- what is written for each event, from what has come before
abbrev pub texts_for : Selectors → Script → Document → List Event → List (List ℕ)
texts_for selectors s d [] = []
texts_for selectors s d (event ∷ events) = text_for selectors s d event ∷ texts_for selectors s (after selectors s.esi d event) events

-- what is written for a run, up to the event that is refused
abbrev pub run_output : List (List ℕ) → Option (ℕ × Cause) → Output
run_output texts None = record { text = concat texts; status = Good }
run_output texts (Some refusal) = record { text = concat (take refusal.0 texts) ++ lines_of (shown_cause refusal.1 ∷ []); status = Refused }

abbrev pub good_output : Selectors → Script → Output
good_output selectors s =
    run_output (texts_for selectors s empty s.events) (refused selectors s.esi (record { item_bytes = 64; maximum = s.limit; usage = 0 }) s.events)

abbrev pub output_of : Result Script BadLine → Output
output_of (Ok s) = good_output (selectors_in s) s
output_of (Err bad) = record { text = bad_line bad; status = Bad }

-- What is written for a script, and how its run ends.
abbrev pub output : List ℕ → Output
output bytes = output_of (read_script bytes)
