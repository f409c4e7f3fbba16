-- A run that has answered nothing.
use Rattle.std.proofs.Common.{◌≡◌, ℕ, Bool, true, false, List, [], ◌∷◌, ◌++◌, length, map, Option, Some, None, refl, sym, ap, ◌∙◌, subst}
use Rattle.std.specs.Prelude.{IfSome, IsSome}
use Rattle.std.specs.List.{concat}
use Rattle.lol_base.specs.MemberLaws.{among_too, distinct_from_pairs, same_length}
use Rattle.lol_reasons.specs.AskedRuns.{AskedRunsAnswerAlike}
use Rattle.lol_matcher.specs.Plain.{ItemsAnswerAsTexts, ToldIsExplainedAlike}
use Rattle.lol_matcher.specs.Refusing.{allowance}
use Rattle.lol_program.specs.Asts.{is_with_rows, nodes_of}
use Rattle.lol_program.specs.ClosedLaws.{trees_are_closed}
use Rattle.lol_program.specs.Nodes.{selectors_of}
use Rattle.lol_program.specs.PairNodeLaws.{nodes_of-AreNodes}
use Rattle.lol_program.specs.Paths.{Selectors}
use Rattle.lol_program.specs.Sets.{SameMembers}
use Rattle.lol_program.specs.declared.ast.Ast.{Ast}
use Rattle.lol_reasons.specs.Explanations.{Reason, added_by, explanations, explanations_from}
use Rattle.lol_machine.specs.AnswerLaws.{order_changes_nothing}
use Rattle.lol_machine.specs.Answers.{Answer, after, answers_from}
use Rattle.lol_machine.specs.Documents.{Document, empty}
use Rattle.lol_machine.specs.Events.{Event}
use Rattle.lol_machine.specs.Laws.{SameSelectors}
use Rattle.lol_machine.specs.Views.{selectors}
use Rattle.lol_script.specs.Answering.{AnswersScript, HasSelectors, Hears, IsNewMatcher, IsWritten, output_for, told_event}
use Rattle.lol_script.specs.Explaining.{Explains}
use Rattle.lol_script.specs.Output.{lines_of, shown_answer}
use Rattle.lol_script.specs.Readings.{IsReading}
use Rattle.lol_script.specs.Scripts.{Script, makes_rows, pairs_in, reason_lines, run_output, selectors_in, text_for, texts_for, texts_in}
use Rattle.lol_script.specs.SelectLines.{KeepsLines}
use Rattle.lol_script.specs.declared.explained.Explained.{Explained}
use Rattle.lol_script.specs.declared.script_run.ScriptRun.{ScriptRun}
use Rattle.lol_script.specs.declared.settings.Settings.{Settings}
use Rattle.lol_script.proofs.AnswerLines.{plain_texts}
use Rattle.lol_script.proofs.Heard.{all_told}
use Rattle.lol_script.proofs.StartTags.{M, as_texts}

-- the selectors of a tree that has rows where the script says so
abbrev pub with_rows_of : Settings → Selectors
with_rows_of code = record (selectors code.ast) { by_keys = makes_rows code.rows_from (length (nodes_of code.ast)) }

same_selectors : (code : Settings) (s : Script) → IsReading code s → SameSelectors (with_rows_of code) (selectors_in s)
same_selectors code s reading =
    let are = nodes_of-AreNodes (pairs_in s) in
    let once = (trees_are_closed false code.ast).once in
    let all = (selectors_of (pairs_in s)).nodes in
    let nodes : SameMembers all (nodes_of code.ast) = λ node. (λ h. (are.members node).1 ((reading.nodes node).0 h), λ h. (reading.nodes node).1 ((are.members node).0 h)) in
    let count : length (nodes_of code.ast) ≡ length all =
    same_length (nodes_of code.ast) all (distinct_from_pairs (nodes_of code.ast) once) (distinct_from_pairs all are.each_once)
    (among_too (nodes_of code.ast) all (λ node. (nodes node).0)) (among_too all (nodes_of code.ast) (λ node. (nodes node).1)) in
    record {
      pairs = reading.pairs;
      nodes = nodes;
      each_once = once;
      each_once' = are.each_once;
      mode = λ i. makes_rows (reading.rows_from i) (count i);
    }

-- 1. What is written, by answers and reasons

abbrev text_by : Script → Answer → List Reason → List ℕ
text_by s answer reasons = lines_of (shown_answer s.shows_tries answer ∷ reason_lines s reasons)

abbrev texts_by : Script → List Answer → List (List Reason) → List (List ℕ)
texts_by s [] reasons = []
texts_by s (a ∷ answers) [] = []
texts_by s (a ∷ answers) (rs ∷ reasons) = text_by s a rs ∷ texts_by s answers reasons

written_by : (p : Selectors) (s : Script) (d : Document) (events : List Event) → texts_for p s d events ≡ texts_by s (answers_from p s.esi d events) (explanations_from p s.esi (added_by (texts_in s)) d events)
written_by p s d [] = refl
written_by p s d (event ∷ events) = ap (λ texts. text_for p s d event ∷ texts) (written_by p s (after p s.esi d event) events)

-- 2. What is told is answered as the events are

module _ (told : AskedRunsAnswerAlike) (p : Selectors) (s : Script) where
  -- where no reasons are shown
  plain_alike : s.explains ≡ false → (ast : Ast) → p ≡ selectors ast → (events : List Event) → output_for p s (map told_event events) ≡ output_for p s events
  plain_alike plain ast is events =
      subst (λ (q : Selectors). output_for q s (map told_event events) ≡ output_for q s events) (sym is)
      (let q = selectors ast in
      let both = told ast s.esi events (map told_event events) (all_told q s.esi empty events) in
      let texts : texts_for q s empty (map told_event events) ≡ texts_for q s empty events =
      plain_texts q s plain empty (map told_event events)
      ∙ (ap (map (λ (a : Answer). shown_answer s.shows_tries a ++ 10 ∷ [])) both.answered ∙ sym (plain_texts q s plain empty events)) in
      λ i. run_output (texts i) (both.refused_alike (allowance 64 s.limit) i))

pub same_output : (p : Selectors) (s : Script) → s.explains ≡ false → SameSelectors p (selectors_in s) → (events : List Event) → output_for p s events ≡ output_for (selectors_in s) s events
same_output p s plain same events =
    let both = order_changes_nothing p (selectors_in s) same s.esi events in
    let texts : texts_for p s empty events ≡ texts_for (selectors_in s) s empty events =
    plain_texts p s plain empty events
    ∙ (ap (map (λ (a : Answer). shown_answer s.shows_tries a ++ 10 ∷ [])) both.0 ∙ sym (plain_texts (selectors_in s) s plain empty events)) in
    λ i. run_output (texts i) (both.1 (allowance 64 s.limit) i)

-- where they are shown, by a tree of the same selectors and by that of their items
explained_alike : AskedRunsAnswerAlike → ItemsAnswerAsTexts → ToldIsExplainedAlike → (s : Script) (tree : Ast) → SameSelectors (selectors tree) (selectors_in s) → (ast : Ast) (x : Explained) → HasSelectors (selectors_in s) s ast (Some x)
    → (events : List Event) → output_for (selectors_in s) s (map told_event events) ≡ output_for (selectors_in s) s events
explained_alike told items reasons s tree same ast x has events =
    let p = selectors_in s in
    let heard = map told_event events in
    let added = added_by (texts_in s) in
    let both = told tree s.esi events heard (all_told (selectors tree) s.esi empty events) in
    let before = order_changes_nothing (selectors tree) p same s.esi heard in
    let after_it = order_changes_nothing (selectors tree) p same s.esi events in
    let answers = sym before.0 ∙ (both.answered ∙ after_it.0) in
    let explained : explanations p s.esi added heard ≡ explanations p s.esi added events =
    (as_texts items p s ast x has heard).explained
    ∙ (reasons (texts_in s) (record { ast = ast; explainer = x.explainer }) has.3.holds s.esi events heard (all_told (selectors ast) s.esi empty events) ∙ sym (as_texts items p s ast x has events).explained) in
    let texts = written_by p s empty heard ∙ ((λ i. texts_by s (answers i) (explained i)) ∙ sym (written_by p s empty events)) in
    let refused_alike = sym (before.1 (allowance 64 s.limit)) ∙ (both.refused_alike (allowance 64 s.limit) ∙ after_it.1 (allowance 64 s.limit)) in
    λ i. run_output (texts i) (refused_alike i)

-- 3. A new run

some_is : (P : Explained → Type 0) (o : Option Explained) → IsSome o → IfSome o P → (x : Explained) × (o ≡ Some x) × P x
some_is P None some holds = absurd (let is = some in cc)
some_is P (Some x) some holds = (x, refl, holds)

module _ (told : AskedRunsAnswerAlike) (items : ItemsAnswerAsTexts) (reasons : ToldIsExplainedAlike) (code : ScriptRun) (settings : Settings) (tree : Ast) (with_rows : selectors tree ≡ with_rows_of settings) (s : Script) (reading : IsReading settings s)
    (shows : code.shows_tries ≡ settings.shows_tries) (none : code.written.text.items ≡ []) where
  same : SameSelectors (selectors tree) (selectors_in s)
  same = subst (λ (t : Selectors). SameSelectors t (selectors_in s)) (sym with_rows) (same_selectors settings s reading)

  -- it has heard nothing
  hears : (p : Selectors) (ast : Ast) → IsNewMatcher ast settings.limit settings.esi code.matcher → Hears p s (map told_event s.events) code.matcher
  hears p ast new =
      subst (λ (events : List Event). Hears p s (map told_event events) code.matcher) (sym reading.none)
      (subst (Hears p s []) (sym new) (record { esi = reading.esi; limit = reading.limit; bytes = refl; heard_is = refl; elements = refl; fits = refl }))

  nothing_written : (p : Selectors) → code.written.text.items ≡ concat (texts_for p s empty (map told_event s.events))
  nothing_written p = none ∙ ap (λ (events : List Event). concat (texts_for p s empty (map told_event events))) (sym reading.none)

  begins : (p : Selectors) (ast : Ast) → IsNewMatcher ast settings.limit settings.esi code.matcher → HasSelectors p s code.matcher.told.ast code.explained
      → ((events : List Event) → output_for p s (map told_event events) ≡ output_for (selectors_in s) s events) → AnswersScript code s
  begins p ast new has alike = record {
    selectors = p;
    same = alike;
    shows_tries = shows ∙ reading.shows_tries;
    written = subst (IsWritten p s code) (sym (ap (λ (m : M). m.failed) new)) (hears p ast new, has, nothing_written p);
  }

  pub begun : (settings.explains ≡ false → (code.explained ≡ None) × IsNewMatcher tree settings.limit settings.esi code.matcher)
      → (settings.explains ≡ true → IfSome code.explained (λ explained. (t : Script) → KeepsLines settings.selects t.selects → is_with_rows tree ≡ (selectors_in t).by_keys
      → Explains explained t code.matcher.told.ast × (is_with_rows code.matcher.told.ast ≡ (selectors_in t).by_keys) × IsNewMatcher code.matcher.told.ast settings.limit settings.esi code.matcher))
      → (settings.explains ≡ true → IsSome code.explained) → AnswersScript code s
  begun plain explained some = by_explains settings.explains refl
    where
      by_explains : (b : Bool) → settings.explains ≡ b → AnswersScript code s
      by_explains false is =
          let new = plain is in
          let silent : s.explains ≡ false = sym reading.explains ∙ is in
          let p = selectors tree in
          begins p tree new.1
          (subst (λ (o : Option Explained). HasSelectors p s code.matcher.told.ast o) (sym new.0) (silent, ap (λ (m : M). selectors m.told.ast) (sym new.1)))
          (λ events. plain_alike told p s silent tree refl events ∙ same_output p s silent same events)
      by_explains true is =
          let p = selectors_in s in
          let one = some_is _ code.explained (some is) (explained is) in
          let made = one.2 s reading.selects (ap (λ (t : Selectors). t.by_keys) with_rows ∙ (same_selectors settings s reading).mode) in
          let has : HasSelectors p s code.matcher.told.ast (Some one.0) = (sym reading.explains ∙ is, refl, made.1, made.0) in
          begins p code.matcher.told.ast made.2 (subst (λ (o : Option Explained). HasSelectors p s code.matcher.told.ast o) (sym one.1) has)
          (explained_alike told items reasons s tree same code.matcher.told.ast one.0 has)
