-- An end tag that is answered is one more of a script.
use Rattle.std.proofs.Common.{◌≡◌, ℕ, ◌+◌, ◌-◌, ◌^◌, ◌≤◌, ◌==◌, Bool, false, List, [], ◌∷◌, ◌++◌, length, map, reverse, take, Option, Some, None, refl, sym, ap, ◌∙◌, subst, arith}
use Rattle.std.specs.Prelude.{codes, decimal}
use Rattle.std.specs.Cmp.{unsigned_Decides}
use Rattle.std.proofs.lemmas.Bool.Decides.{nat_tests}
use Rattle.std.proofs.lemmas.List.{append-nil, take-map}
use Rattle.lol_base.specs.BoolLaws.{not_true}
use Rattle.lol_instructions.specs.Tests.{Element}
use Rattle.lol_matcher.specs.Answering.{with_ended}
use Rattle.lol_matcher.specs.ClosedLaws.{closed_numbers}
use Rattle.lol_matcher.specs.Plain.{ItemsAnswerAsTexts}
use Rattle.lol_matcher.specs.Refusing.{allowance}
use Rattle.lol_matcher.specs.Told.{heard, in_word}
use Rattle.lol_program.specs.Paths.{Selectors}
use Rattle.lol_program.specs.declared.ast.Ast.{Ast}
use Rattle.lol_machine.specs.AnswerLaws.{document_push}
use Rattle.lol_machine.specs.Answers.{document}
use Rattle.lol_machine.specs.Documents.{Document, closed, empty, index_of, inner_part}
use Rattle.lol_machine.specs.Events.{Event, End}
use Rattle.lol_machine.specs.RefusalLaws.{fits_on}
use Rattle.lol_machine.specs.Standing.{DocumentsAreOrdered}
use Rattle.lol_machine.specs.Views.{selectors}
use Rattle.lol_machine.specs.Vms.{open_after}
use Rattle.lol_script.specs.Answering.{AnswersScript, HasSelectors, Hears, numbers_closed, told_event}
use Rattle.lol_script.specs.Output.{comma_list, lines_of}
use Rattle.lol_script.specs.Scripts.{Script, text_for, with_event}
use Rattle.lol_script.specs.declared.explained.Explained.{Explained}
use Rattle.lol_script.specs.declared.script_run.ScriptRun.{ScriptRun}
use Rattle.lol_script.proofs.AnswerLines.{answered_more, no_reasons}
use Rattle.lol_script.proofs.Reasons.{then_more}
use Rattle.lol_script.proofs.StartTags.{M, as_texts}

-- a tag before which all are counted exactly
pub few_before : (count : ℕ) (events : List Event) → count ≡ in_word (length events) → (count ≡ 18446744073709551615 → ⊥) → length events ≤ 2 ^ 64 - 1
few_before count events is other =
    let test : (count == 18446744073709551615) ≡ false = not_true (count == 18446744073709551615) (λ same. other ((unsigned_Decides count 18446744073709551615).0 same)) in
    grind (arith, nat_tests)

-- 1. What is written

end_text : (p : Selectors) (s : Script) (d : Document) (name : List ℕ) → lines_of ((codes "end" ++ 9 ∷ comma_list (map decimal (closed name d))) ∷ []) ≡ text_for p s d (End name)
end_text p s d name = ap (λ lines. lines_of ((codes "end" ++ 9 ∷ comma_list (map decimal (closed name d))) ∷ lines)) (sym (no_reasons s))

-- the line, written part by part
pub end_written : (t0 t1 t2 list : List ℕ) → t1 ≡ t0 ++ 101 ∷ 110 ∷ 100 ∷ 9 ∷ [] → t2 ≡ t1 ++ (list ++ 10 ∷ []) → t2 ≡ t0 ++ lines_of ((codes "end" ++ 9 ∷ list) ∷ [])
end_written t0 t1 t2 list h1 h2 =
    then_more t0 t1 t2 (101 ∷ 110 ∷ 100 ∷ 9 ∷ []) (list ++ 10 ∷ []) h1 h2 ∙ ap (λ (more : List ℕ). t0 ++ (101 ∷ 110 ∷ 100 ∷ 9 ∷ more)) (sym (append-nil (list ++ 10 ∷ [])))

-- 2. One end tag more of a script

documents_alike : ItemsAnswerAsTexts → (p : Selectors) (s : Script) (ast : Ast) (o : Option Explained) → HasSelectors p s ast o → (events : List Event) → document p s.esi events ≡ document (selectors ast) s.esi events
documents_alike items p s ast None has events = ap (λ (q : Selectors). document q s.esi events) has.1
documents_alike items p s ast (Some x) has events = (as_texts items p s ast x has events).documents

pub ended_more : ItemsAnswerAsTexts → DocumentsAreOrdered → (code later : ScriptRun) (s : Script) → AnswersScript code s → code.matcher.failed ≡ false → (name : List ℕ) → length (heard code.matcher.told) ≤ 2 ^ 64 - 1
    → later.shows_tries ≡ code.shows_tries → later.explained ≡ code.explained → later.matcher ≡ with_ended code.matcher name
    → later.written.text.items ≡ code.written.text.items ++ lines_of ((codes "end" ++ 9 ∷ comma_list (map decimal (numbers_closed code.matcher.open_elements name))) ∷ [])
    → AnswersScript later (with_event s (End name))
ended_more items ordered code later s run going name few shows same ended written =
    answered_more code later s run going (ap (λ (m : M). m.failed) ended ∙ going) shows (End name) (λ hears has.
    let m = code.matcher in
    let n = selectors m.told.ast in
    let told = map told_event s.events in
    let d = document n s.esi told in
    let here : document n m.told.esi (heard m.told) ≡ d = λ i. document n (hears.esi i) (hears.heard_is i) in
    let elements : m.open_elements ≡ d.open_elements = hears.elements ∙ ap (λ (d : Document). d.open_elements) here in
    let numbers = ap (λ (es : List Element). numbers_closed es name) elements ∙ closed_numbers ordered n s.esi told (subst (λ (es : List Event). length es ≤ 2 ^ 64 - 1) hears.heard_is few) name in
    let documents = documents_alike items run.selectors s m.told.ast code.explained has told in (
      subst (Hears run.selectors s (told ++ End name ∷ [])) (sym ended) (record {
        esi = hears.esi;
        limit = hears.limit;
        bytes = hears.bytes;
        heard_is = ap (λ (es : List Event). es ++ End name ∷ []) hears.heard_is;
        elements = ap (open_after name) hears.elements ∙ sym (ap (λ (d : Document). d.open_elements) (document_push n m.told.esi empty (heard m.told) (End name)));
        fits = fits_on run.selectors s.esi (allowance 64 s.limit) told hears.fits (End name) refl;
      }),
      subst (λ (o : Option Explained). HasSelectors run.selectors s later.matcher.told.ast o) (sym same) (subst (λ (ast : Ast). HasSelectors run.selectors s ast code.explained) (ap (λ (m : M). m.told.ast) (sym ended)) has),
      written ∙ ap (λ (text : List ℕ). code.written.text.items ++ text)
          (ap (λ (ns : List ℕ). lines_of ((codes "end" ++ 9 ∷ comma_list (map decimal ns)) ∷ [])) (numbers ∙ ap (closed name) (sym documents)) ∙ end_text run.selectors s (document run.selectors s.esi told) name),
    ))
