-- A start tag that is answered is one more of a script.
use Rattle.std.proofs.Common.{◌≡◌, ◌==◌, ◌<◌, ◌+◌, ◌^◌, ℕ, arith, length-append, Bool, true, false, List, [], ◌∷◌, ◌++◌, length, get_or, map, Option, Some, None, refl, sym, ap, ◌∙◌, subst}
use Rattle.std.specs.Prelude.{codes, if◌then◌else◌}
use Rattle.std.specs.Cmp.{unsigned_Decides}
use Rattle.std.proofs.lemmas.Bool.Decides.{nat_tests}
use Rattle.std.proofs.lemmas.List.{append-nil}
use Rattle.lol_base.specs.BoolLaws.{not_true}
use Rattle.lol_base.specs.StartTags.{StartTag}
use Rattle.lol_instructions.specs.Tries.{attributes_counted, names_counted}
use Rattle.lol_instructions.specs.declared.tries.Tries.{Tries}
use Rattle.lol_matcher.specs.Explaining.{AreNumbered, reasons_told}
use Rattle.lol_matcher.specs.ExplainingLaws.{dropped_reasons, last_reasons}
use Rattle.lol_matcher.specs.Last.{last_or}
use Rattle.lol_matcher.specs.Plain.{AnswersAsTexts, ItemsAnswerAsTexts, matches_for, plain_selectors}
use Rattle.lol_matcher.specs.Refusing.{allowance, refusal_after}
use Rattle.lol_matcher.specs.Told.{Matching, heard, in_word}
use Rattle.lol_program.specs.Asts.{is_with_rows}
use Rattle.lol_program.specs.Paths.{Selectors}
use Rattle.lol_program.specs.declared.ast.Ast.{Ast}
use Rattle.lol_reasons.specs.Explanations.{Reason, added_by, explanations, reasons_at}
use Rattle.lol_reasons.specs.NumberingLaws.{reporting}
use Rattle.lol_machine.specs.Answers.{Answer, Match, Started, Dropped, answer, asks, attribute_tries, document, is_dropped, name_tries, report}
use Rattle.lol_machine.specs.Documents.{Document, element_of}
use Rattle.lol_machine.specs.Events.{Event, Start, has_content}
use Rattle.lol_machine.specs.RefusalLaws.{fits_on, stops_at}
use Rattle.lol_machine.specs.Refusals.{Cause, refused}
use Rattle.lol_machine.specs.Views.{match_of, selectors}
use Rattle.lol_script.specs.Answering.{AnswersScript, GoesOn, HasSelectors, Hears, IsStarted, IsStopped, answer_with, told_event, told_tag}
use Rattle.lol_script.specs.Explaining.{Explains, IsReasoned, lines_by}
use Rattle.lol_script.specs.AnswerTexts.{started_text, tries_shown}
use Rattle.lol_script.specs.Output.{comma_list, lines_of, shown_answer, shown_match, shown_reason, tries_field}
use Rattle.lol_script.specs.Scripts.{Script, line_number, reason_lines, selectors_in, shown_cause, text_for, texts_in, with_event}
use Rattle.lol_script.specs.declared.explained.Explained.{Explained}
use Rattle.lol_script.specs.declared.script_run.Outcome.{Outcome}
use Rattle.lol_script.specs.declared.script_run.Outcome.TheVariants as outcomes
use Rattle.lol_script.specs.declared.script_run.ScriptRun.{ScriptRun}
use Rattle.lol_script.proofs.AnswerLines.{answered_more, no_reasons, refused_ends}

abbrev pub M : Type 0
M = Matching (Unit {0})

-- a tag that is counted exactly
pub few_heard : (count : ℕ) (before more : List Event) (event : Event) → count ≡ in_word (length before) → (count ≡ 18446744073709551615 → ⊥) → more ≡ before ++ event ∷ [] → length more < 2 ^ 64
few_heard count before more event is other last =
    let test : (count == 18446744073709551615) ≡ false = not_true (count == 18446744073709551615) (λ same. other ((unsigned_Decides count 18446744073709551615).0 same)) in
    let many = ap length last ∙ length-append before (event ∷ []) in
    grind (arith, nat_tests)

-- 1. The items of a script's selectors answer as these

pub as_texts : ItemsAnswerAsTexts → (p : Selectors) (s : Script) (ast : Ast) (x : Explained) → HasSelectors p s ast (Some x) → (events : List Event) → AnswersAsTexts (texts_in s) p (selectors ast) s.esi events
as_texts items p s ast x h events =
    let same : record (plain_selectors (texts_in s)) { by_keys = is_with_rows ast } ≡ p = (λ i. record (plain_selectors (texts_in s)) { by_keys = h.2 i }) ∙ sym h.1 in
    subst (λ (q : Selectors). AnswersAsTexts (texts_in s) q (selectors ast) s.esi events) same
    (items (texts_in s) (record { ast = ast; explainer = x.explainer }) h.3.holds s.esi events)

-- and refuse as they do
refuses_alike : ItemsAnswerAsTexts → (p : Selectors) (s : Script) (ast : Ast) (o : Option Explained) → HasSelectors p s ast o → (events : List Event) (tag : StartTag)
    → refusal_after p s.esi (allowance 64 s.limit) events tag ≡ refusal_after (selectors ast) s.esi (allowance 64 s.limit) events tag
refuses_alike items p s ast None h events tag = ap (λ (q : Selectors). refusal_after q s.esi (allowance 64 s.limit) events tag) h.1
refuses_alike items p s ast (Some x) h events tag = (as_texts items p s ast x h events).refused (allowance 64 s.limit) tag

-- 2. What is written

-- one that was dropped was
dropped : (s : Selectors) (esi : Bool) (d : Document) (tag : StartTag) → answer s esi d (Start tag) ≡ Dropped → is_dropped s (element_of d tag) d.open_elements ≡ true
dropped s esi d tag same = by_drop (is_dropped s (element_of d tag) d.open_elements) same
  where
    by_drop : (b : Bool) → (if b then Dropped else Started (report s esi (element_of d tag) d.open_elements) (asks s (element_of d tag) d.open_elements) (name_tries s (element_of d tag) d.open_elements) (attribute_tries s (element_of d tag) d.open_elements)) ≡ Dropped → b ≡ true
    by_drop true h = refl
    by_drop false h = cc

dropped_text : (p : Selectors) (s : Script) (d : Document) (tag : StartTag) → answer p s.esi d (Start tag) ≡ Dropped → codes "dropped" ++ 10 ∷ [] ≡ text_for p s d (Start tag)
dropped_text p s d tag is =
    let none : reasons_at p (added_by (texts_in s)) d (Start tag) ≡ [] = dropped_reasons _ _ (dropped p s.esi d tag is) in
    sym (append-nil (codes "dropped" ++ 10 ∷ []))
    ∙ (ap (λ (lines : List (List ℕ)). (codes "dropped" ++ 10 ∷ []) ++ lines_of lines) (sym (no_reasons s))
    ∙ (λ i. lines_of (shown_answer s.shows_tries (sym is i) ∷ reason_lines s (sym none i))))

-- the line of one that is reported, where its tries may be shown
pub line_is : (m : M) (shows asked : Bool) (tries : Option Tries) → tries_shown tries ≡ tries_field shows (names_counted m.tries) (attributes_counted m.tries) → (matched : List Match)
    → started_text matched asked tries ≡ shown_answer shows (Started matched asked (names_counted m.tries) (attributes_counted m.tries))
line_is m shows asked tries shown matched = ap (λ (t : List ℕ). codes "start" ++ (9 ∷ comma_list (map shown_match matched) ++ ((if asked then 9 ∷ codes "asked" else []) ++ t))) shown

-- where no reasons are shown
plain_line : (p : Selectors) (s : Script) (d : Document) (tag : StartTag) (shows : Bool) (a : Answer) → s.explains ≡ false → shows ≡ s.shows_tries → answer p s.esi d (Start tag) ≡ a
    → lines_of (shown_answer shows a ∷ []) ≡ text_for p s d (Start tag)
plain_line p s d tag shows a plain same is =
    λ i. lines_of (shown_answer (same i) (sym is i) ∷ (if sym plain i then map (λ (reason : Reason). shown_reason (line_number s reason.text) reason) (reasons_at p (added_by (texts_in s)) d (Start tag)) else []))

-- the lines of reasons, by the numbers that the code keeps
same_lines : (x : Explained) (s : Script) (ast : Ast) → Explains x s ast → s.explains ≡ true → (reasons : List Reason) → lines_by x.lines.items reasons ≡ reason_lines s reasons
same_lines x s ast explains shows reasons =
    (λ i. map (λ (reason : Reason). shown_reason (get_or (explains.lines i) reason.text 0) reason) reasons)
    ∙ sym (ap (λ (b : Bool). if b then map (λ (reason : Reason). shown_reason (line_number s reason.text) reason) reasons else []) shows)

-- 3. A matcher that was told one more

module _ (items : ItemsAnswerAsTexts) (p : Selectors) (s : Script) (events : List Event) (tag : StartTag) (old : M) (o : Option Explained) (hears : Hears p s events old) (has : HasSelectors p s old.told.ast o) where
  refusal_here : refusal_after p s.esi (allowance 64 s.limit) events tag ≡ refusal_after (selectors old.told.ast) old.told.esi (allowance old.element_bytes old.max_memory) (heard old.told) tag
  refusal_here =
      refuses_alike items p s old.told.ast o has events tag
      ∙ sym (λ i. refusal_after (selectors old.told.ast) (hears.esi i) (allowance (hears.bytes i) (hears.limit i)) (hears.heard_is i) tag)

  pub hears_more : (outcome : Outcome) (new : M) → IsStarted outcome tag old new → Hears p s (events ++ Start tag ∷ []) new
  hears_more outcome new is =
      let on = is.goes_on in
      record {
        esi = on.esi ∙ hears.esi;
        limit = on.memory ∙ hears.limit;
        bytes = on.bytes ∙ hears.bytes;
        heard_is = on.heard_more ∙ ap (λ (es : List Event). es ++ Start tag ∷ []) hears.heard_is;
        elements = on.elements;
        fits = fits_on p s.esi (allowance 64 s.limit) events hears.fits (Start tag) (refusal_here ∙ is.fits);
      }

  pub stops_here : (cause : Cause) (new : M) → IsStopped cause tag old new → (later : List Event)
      → refused p s.esi (allowance 64 s.limit) (events ++ Start tag ∷ later) ≡ Some (length events, cause)
  stops_here cause new is later = stops_at p s.esi (allowance 64 s.limit) events hears.fits (Start tag) later cause (refusal_here ∙ is.refused)

  -- it is answered so by the matcher's own selectors
  own_answer : (outcome : Outcome) (new : M) → IsStarted outcome tag old new
      → answer (selectors old.told.ast) s.esi (document (selectors old.told.ast) s.esi events) (Start tag) ≡ answer_with outcome new
  own_answer outcome new is =
      sym (λ i. answer (selectors old.told.ast) (hears.esi i) (document (selectors old.told.ast) (hears.esi i) (hears.heard_is i)) (Start tag)) ∙ is.answered

module _ (items : ItemsAnswerAsTexts) (p : Selectors) (s : Script) (events : List Event) (tag : StartTag) (old new : M) (hears : Hears p s events old) where
  drops : (o : Option Explained) → HasSelectors p s old.told.ast o → IsStarted outcomes.Dropped tag old new → answer p s.esi (document p s.esi events) (Start tag) ≡ Dropped
  drops None has is = ap (λ (q : Selectors). answer q s.esi (document q s.esi events) (Start tag)) has.1 ∙ own_answer items p s events tag old None hears has outcomes.Dropped new is
  drops (Some x) has is =
      (as_texts items p s old.told.ast x has events).answered tag
      ∙ ap (reporting (matches_for (has_content s.esi tag) (reasons_at (selectors old.told.ast) (added_by (texts_in s)) (document (selectors old.told.ast) s.esi events) (Start tag))))
      (own_answer items p s events tag old (Some x) hears has outcomes.Dropped new is)

  module _ (asked : Bool) (is : IsStarted (outcomes.Reported asked) tag old new) where
    abbrev names : ℕ
    names = names_counted new.tries

    abbrev attributes : ℕ
    attributes = attributes_counted new.tries

    module _ (x : Explained) (has : HasSelectors p s old.told.ast (Some x)) where
      abbrev n : Selectors
      n = selectors old.told.ast

      abbrev reasons_here : List Reason
      reasons_here = reasons_at n (added_by (texts_in s)) (document n s.esi events) (Start tag)

      told_here : reasons_told (texts_in s) new.told ≡ reasons_here
      told_here =
          let on = is.goes_on in
          let heard_is = on.heard_more ∙ ap (λ (es : List Event). es ++ Start tag ∷ []) hears.heard_is in
          (λ i. last_or [] (explanations (selectors (on.ast i)) ((on.esi ∙ hears.esi) i) (added_by (texts_in s)) (heard_is i)))
          ∙ last_reasons n s.esi (added_by (texts_in s)) events (Start tag)

      same_reasons : reasons_at p (added_by (texts_in s)) (document p s.esi events) (Start tag) ≡ reasons_here
      same_reasons =
          sym (last_reasons p s.esi (added_by (texts_in s)) events (Start tag))
          ∙ (ap (last_or []) (as_texts items p s old.told.ast x has (events ++ Start tag ∷ [])).explained ∙ last_reasons n s.esi (added_by (texts_in s)) events (Start tag))

      opened : new.opened ≡ has_content s.esi tag
      opened = is.opened ∙ ap (λ (esi : Bool). has_content esi tag) hears.esi

      answer_is : answer p s.esi (document p s.esi events) (Start tag) ≡ Started (matches_for new.opened (reasons_told (texts_in s) new.told)) asked names attributes
      answer_is =
          (as_texts items p s old.told.ast x has events).answered tag
          ∙ (ap (reporting (matches_for (has_content s.esi tag) reasons_here)) (own_answer items p s events tag old (Some x) hears has (outcomes.Reported asked) new is)
          ∙ sym (λ i. Started (matches_for (opened i) (told_here i)) asked names attributes))

      explained_line : (shows : Bool) → shows ≡ s.shows_tries
          → lines_of (shown_answer shows (Started (matches_for new.opened (reasons_told (texts_in s) new.told)) asked names attributes) ∷ lines_by x.lines.items (reasons_told (texts_in s) new.told))
          ≡ text_for p s (document p s.esi events) (Start tag)
      explained_line shows same =
          let reasons_are = told_here ∙ sym same_reasons in
          λ i. lines_of (shown_answer (same i) (sym answer_is i) ∷ (same_lines x s old.told.ast has.3 has.0 (reasons_told (texts_in s) new.told) ∙ ap (reason_lines s) reasons_are) i)

-- 4. One start tag more of a script

module _ (items : ItemsAnswerAsTexts) (code later : ScriptRun) (s : Script) (run : AnswersScript code s) (going : code.matcher.failed ≡ false) (tag : StartTag) (shows : later.shows_tries ≡ code.shows_tries) where
  abbrev p : Selectors
  p = run.selectors

  abbrev told : List Event
  told = map told_event s.events

  pub dropped_more : later.explained ≡ code.explained → IsStarted outcomes.Dropped (told_tag tag) code.matcher later.matcher
      → later.written.text.items ≡ code.written.text.items ++ (codes "dropped" ++ 10 ∷ []) → AnswersScript later (with_event s (Start tag))
  dropped_more same is written = answered_more code later s run going is.goes_on.going shows (Start tag) (λ hears has. (
    hears_more items p s told (told_tag tag) code.matcher code.explained hears has outcomes.Dropped later.matcher is,
    subst (λ (o : Option Explained). HasSelectors p s later.matcher.told.ast o) (sym same) (subst (λ (ast : Ast). HasSelectors p s ast code.explained) (sym is.goes_on.ast) has),
    written ∙ ap (λ (text : List ℕ). code.written.text.items ++ text) (dropped_text p s (document p s.esi told) (told_tag tag) (drops items p s told (told_tag tag) code.matcher later.matcher hears code.explained has is)),
  ))

  pub reported_more : (asked : Bool) → IsStarted (outcomes.Reported asked) (told_tag tag) code.matcher later.matcher → AreNumbered later.matcher.told
      → IsReasoned later.matcher code.shows_tries asked code.written.text.items later.written.text.items code.explained later.explained → AnswersScript later (with_event s (Start tag))
  reported_more asked is few reasoned = answered_more code later s run going is.goes_on.going shows (Start tag) (λ hears has.
      let on = by_reasons code.explained later.explained hears has reasoned in
      (hears_more items p s told (told_tag tag) code.matcher code.explained hears has (outcomes.Reported asked) later.matcher is, on.0, on.1))
    where
      by_reasons : (before after : Option Explained) → Hears p s told code.matcher → HasSelectors p s code.matcher.told.ast before → IsReasoned later.matcher code.shows_tries asked code.written.text.items later.written.text.items before after
          → HasSelectors p s later.matcher.told.ast after × (later.written.text.items ≡ code.written.text.items ++ text_for p s (document p s.esi told) (Start (told_tag tag)))
      by_reasons None None hears has reasoned = (
        (has.0, has.1 ∙ ap (λ (ast : Ast). selectors ast) (sym is.goes_on.ast)),
        reasoned.1
            ∙ ap (λ (text : List ℕ). code.written.text.items ++ text)
            (plain_line p s (document p s.esi told) (told_tag tag) code.shows_tries _ has.0 run.shows_tries
            (ap (λ (q : Selectors). answer q s.esi (document q s.esi told) (Start (told_tag tag))) has.1 ∙ own_answer items p s told (told_tag tag) code.matcher None hears has (outcomes.Reported asked) later.matcher is)),
      )
      by_reasons None (Some x) hears has reasoned = absurd (let other = reasoned.0 in cc)
      by_reasons (Some x) None hears has reasoned = absurd reasoned
      by_reasons (Some x) (Some y) hears has reasoned =
          let there = subst (λ (ast : Ast). Explains x s ast) (sym is.goes_on.ast) has.3 in
          let done = reasoned s there is.goes_on.going few in (
            (has.0, has.1, ap is_with_rows is.goes_on.ast ∙ has.2, done.0),
            done.1 ∙ ap (λ (text : List ℕ). code.written.text.items ++ text) (explained_line items p s told (told_tag tag) code.matcher later.matcher hears asked is x has code.shows_tries run.shows_tries),
          )

  pub stopped_more : (cause : Cause) → IsStopped cause (told_tag tag) code.matcher later.matcher → later.written.text.items ≡ code.written.text.items ++ lines_of (shown_cause cause ∷ [])
      → AnswersScript later (with_event s (Start tag))
  stopped_more cause is written =
      refused_ends code later s run going (ap (λ (m : M). m.failed) is.after) shows (Start tag) cause
      (λ hears has rest. stops_here items p s told (told_tag tag) code.matcher code.explained hears has cause later.matcher is rest) written
