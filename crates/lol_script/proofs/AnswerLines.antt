-- What is written for the tags so far.
use Rattle.std.proofs.Common.{◌≡◌, ℕ, Bool, true, false, List, [], ◌∷◌, ◌++◌, length, map, take, Option, Some, None, Ok, refl, sym, ap, ◌∙◌, arith, subst}
use Rattle.std.specs.Prelude.{if◌then◌else◌}
use Rattle.std.specs.List.{concat}
use Rattle.std.proofs.lemmas.List.{append-nil, take_at}
use Rattle.std.proofs.lemmas.List.Folds.{concat-append}
use Rattle.lol_matcher.specs.Refusing.{allowance}
use Rattle.lol_program.specs.Paths.{Selectors}
use Rattle.lol_reasons.specs.Explanations.{added_by, reasons_at}
use Rattle.lol_machine.specs.Answers.{Answer, after, answer, answers_from, document, document_from}
use Rattle.lol_machine.specs.Documents.{Document, empty}
use Rattle.lol_machine.specs.Events.{Event}
use Rattle.lol_machine.specs.Refusals.{Cause, refused}
use Rattle.lol_script.specs.Answering.{AnswersScript, HasSelectors, Hears, IsWritten, output_for, told_event}
use Rattle.lol_script.specs.Output.{lines_of, shown_answer}
use Rattle.lol_script.specs.Scripts.{Output, Script, output_of, reason_lines, run_output, selectors_in, shown_cause, text_for, texts_for, texts_in, with_event}
use Rattle.lol_script.specs.declared.program.Status.{Status}
use Rattle.lol_script.specs.declared.program.Status.TheVariants.{Good, Refused}
use Rattle.lol_script.specs.declared.script_run.ScriptRun.{ScriptRun}
use Rattle.lol_script.proofs.Heard.{told_more, told_then}

-- 1. What is written for each event

-- where no reasons are shown, the line of the answer
pub plain_text : (p : Selectors) (s : Script) (d : Document) (event : Event) → s.explains ≡ false
    → text_for p s d event ≡ shown_answer s.shows_tries (answer p s.esi d event) ++ 10 ∷ []
plain_text p s d event plain =
    let line = shown_answer s.shows_tries (answer p s.esi d event) ++ 10 ∷ [] in
    let told = reason_lines (record s { explains = true }) (reasons_at p (added_by (texts_in s)) d event) in
    ap (λ (b : Bool). line ++ lines_of (if b then told else [])) plain ∙ append-nil line

pub plain_texts : (p : Selectors) (s : Script) → s.explains ≡ false → (d : Document) (events : List Event)
    → texts_for p s d events ≡ map (λ (a : Answer). shown_answer s.shows_tries a ++ 10 ∷ []) (answers_from p s.esi d events)
plain_texts p s plain d [] = refl
plain_texts p s plain d (event ∷ events) = λ i. plain_text p s d event plain i ∷ plain_texts p s plain (after p s.esi d event) events i

texts_append : (p : Selectors) (s : Script) (d : Document) (before later : List Event)
    → texts_for p s d (before ++ later) ≡ texts_for p s d before ++ texts_for p s (document_from p s.esi d before) later
texts_append p s d [] later = refl
texts_append p s d (event ∷ before) later = ap (λ texts. text_for p s d event ∷ texts) (texts_append p s (after p s.esi d event) before later)

as_many : (p : Selectors) (s : Script) (d : Document) (events : List Event) → length (texts_for p s d events) ≡ length events
as_many p s d [] = refl
as_many p s d (event ∷ events) = let rest = as_many p s (after p s.esi d event) events in omega (arith, rest)

abbrev no_lines : List (List ℕ)
no_lines = []

-- what has no reasons has no lines of them
pub no_reasons : (s : Script) → reason_lines s [] ≡ []
no_reasons s = by_bool s.explains
  where
    by_bool : (b : Bool) → (if b then no_lines else no_lines) ≡ no_lines
    by_bool true = refl
    by_bool false = refl

abbrev good_with : List ℕ → Output
good_with text = record { text = text; status = Good }

abbrev refused_with : List ℕ → Output
refused_with text = record { text = text; status = Refused }

module _ (p : Selectors) (s : Script) (events : List Event) where
  abbrev written : List ℕ
  written = concat (texts_for p s empty events)

  -- one event more
  written_more : (event : Event) → concat (texts_for p s empty (events ++ event ∷ [])) ≡ written ++ text_for p s (document p s.esi events) event
  written_more event =
      let next = text_for p s (document p s.esi events) event in
      ap concat (texts_append p s empty events (event ∷ []))
      ∙ (concat-append (texts_for p s empty events) (next ∷ []) ∙ ap (λ (rest : List ℕ). written ++ rest) (append-nil next))

  -- the next event is refused, whatever comes after it
  written_refused : (later : List Event) (cause : Cause) → refused p s.esi (allowance 64 s.limit) (events ++ later) ≡ Some (length events, cause)
      → output_for p s (events ++ later) ≡ refused_with (written ++ lines_of (shown_cause cause ∷ []))
  written_refused later cause first =
      let told = texts_for p s empty events in
      let rest = texts_for p s (document p s.esi events) later in
      let before : take (length events) (texts_for p s empty (events ++ later)) ≡ told =
      ap (take (length events)) (texts_append p s empty events later) ∙ take_at told rest (length events) (as_many p s empty events) in
      ap (run_output (texts_for p s empty (events ++ later))) first
      ∙ ap refused_with (ap (λ (texts : List (List ℕ)). concat texts ++ lines_of (shown_cause cause ∷ [])) before)

-- 2. Runs

-- a tag that is answered is one more of a script
pub answered_more : (code later : ScriptRun) (s : Script) (run : AnswersScript code s) → code.matcher.failed ≡ false → later.matcher.failed ≡ false → later.shows_tries ≡ code.shows_tries → (event : Event)
    → (Hears run.selectors s (map told_event s.events) code.matcher → HasSelectors run.selectors s code.matcher.told.ast code.explained
    → Hears run.selectors s (map told_event s.events ++ told_event event ∷ []) later.matcher × HasSelectors run.selectors s later.matcher.told.ast later.explained
    × (later.written.text.items ≡ code.written.text.items ++ text_for run.selectors s (document run.selectors s.esi (map told_event s.events)) (told_event event)))
    → AnswersScript later (with_event s event)
answered_more code later s run going still shows event goes =
    let before = subst (IsWritten run.selectors s code) going run.written in
    let on = goes before.0 before.1 in
    let more = told_more s.events event in
    record {
      selectors = run.selectors;
      same = run.same;
      shows_tries = shows ∙ run.shows_tries;
      written = subst (IsWritten run.selectors (with_event s event) later) (sym still) (
        hears_stay (subst (λ (events : List Event). Hears run.selectors s events later.matcher) (sym more) on.0),
        selectors_stay run.selectors s later event on.1,
        on.2 ∙ (ap (λ (text : List ℕ). text ++ text_for run.selectors s (document run.selectors s.esi (map told_event s.events)) (told_event event)) before.2
            ∙ (sym (written_more run.selectors s (map told_event s.events) (told_event event)) ∙ ap (λ (events : List Event). concat (texts_for run.selectors s empty events)) (sym more))),
      );
    }
  where
    hears_stay : Hears run.selectors s (map told_event (s.events ++ event ∷ [])) later.matcher → Hears run.selectors (with_event s event) (map told_event (s.events ++ event ∷ [])) later.matcher
    hears_stay h = record { esi = h.esi; limit = h.limit; bytes = h.bytes; heard_is = h.heard_is; elements = h.elements; fits = h.fits }

    selectors_stay : (p : Selectors) (s : Script) (later : ScriptRun) (event : Event) → HasSelectors p s later.matcher.told.ast later.explained → HasSelectors p (with_event s event) later.matcher.told.ast later.explained
    selectors_stay p s later event h = stay later.explained h
      where
        stay : (x : _) → HasSelectors p s later.matcher.told.ast x → HasSelectors p (with_event s event) later.matcher.told.ast x
        stay None h = h
        stay (Some explained) h = (h.0, h.1, h.2, record { holds = h.3.holds; lines = h.3.lines; room = h.3.room })

-- a tag that is refused ends what is written
pub refused_ends : (code later : ScriptRun) (s : Script) (run : AnswersScript code s) → code.matcher.failed ≡ false → later.matcher.failed ≡ true → later.shows_tries ≡ code.shows_tries → (event : Event) (cause : Cause)
    → (Hears run.selectors s (map told_event s.events) code.matcher → HasSelectors run.selectors s code.matcher.told.ast code.explained → (rest : List Event)
    → refused run.selectors s.esi (allowance 64 s.limit) (map told_event s.events ++ told_event event ∷ rest) ≡ Some (length (map told_event s.events), cause))
    → later.written.text.items ≡ code.written.text.items ++ lines_of (shown_cause cause ∷ []) → AnswersScript later (with_event s event)
refused_ends code later s run going ended shows event cause first text =
    let before = subst (IsWritten run.selectors s code) going run.written in
    let line = lines_of (shown_cause cause ∷ []) in
    let told = map told_event s.events in
    record {
      selectors = run.selectors;
      same = run.same;
      shows_tries = shows ∙ run.shows_tries;
      written = subst (IsWritten run.selectors (with_event s event) later) (sym ended) (λ rest.
          ap (output_for run.selectors s) (told_then s.events event rest)
          ∙ (written_refused run.selectors s told (told_event event ∷ map told_event rest) cause (first before.0 before.1 (map told_event rest))
          ∙ ap refused_with (sym (text ∙ ap (λ (text : List ℕ). text ++ line) before.2))));
    }

-- after a refusal a tag changes nothing
pub refused_stays : (code : ScriptRun) (s : Script) → AnswersScript code s → code.matcher.failed ≡ true → (event : Event) → AnswersScript code (with_event s event)
refused_stays code s run is event =
    let before = subst (IsWritten run.selectors s code) is run.written in
    record {
      selectors = run.selectors;
      same = run.same;
      shows_tries = run.shows_tries;
      written = subst (IsWritten run.selectors (with_event s event) code) (sym is) (λ rest.
          ap (output_for run.selectors s) (told_then s.events event rest ∙ sym (told_after s.events event rest)) ∙ before (event ∷ rest));
    }
  where
    told_after : (events : List Event) (event : Event) (rest : List Event) → map told_event (events ++ event ∷ rest) ≡ map told_event events ++ told_event event ∷ map told_event rest
    told_after [] event rest = refl
    told_after (e ∷ events) event rest = ap (λ told. told_event e ∷ told) (told_after events event rest)

-- how a run ends
abbrev pub status_of : Bool → Status
status_of true = Refused
status_of false = Good

pub written_whole : (code : ScriptRun) (s : Script) → AnswersScript code s → output_of (Ok s) ≡ record { text = code.written.text.items; status = status_of code.matcher.failed }
written_whole code s run = sym (run.same s.events) ∙ by_end code.matcher.failed run.written
  where
    by_end : (ended : Bool) → IsWritten run.selectors s code ended → output_for run.selectors s (map told_event s.events) ≡ record { text = code.written.text.items; status = status_of ended }
    by_end true h = ap (λ (events : List Event). output_for run.selectors s (map told_event events)) (sym (append-nil s.events)) ∙ h []
    by_end false h =
        ap (run_output (texts_for run.selectors s empty (map told_event s.events))) h.0.fits
        ∙ ap (λ (text : List ℕ). good_with text) (sym h.2)
