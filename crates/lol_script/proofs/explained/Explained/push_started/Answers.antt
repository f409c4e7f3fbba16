use Rattle.std.proofs.Common.{◌≡◌, ◌++◌, ◌∷◌, [], List, ℕ, Bool, map, sym, ap, ◌∙◌, subst}
use Rattle.std.proofs.lemmas.List.{append_assoc}
use Rattle.std.proofs.lemmas.Result.{on_ok_weaker}
use Rattle.lol_matcher.specs.Explaining.{ids_with_reasons, reasons_told}
use Rattle.lol_matcher.specs.Plain.{matches_for}
use Rattle.lol_reasons.specs.Explanations.{Reason}
use Rattle.lol_reasons.specs.Numbered.{reason_shown}
use Rattle.lol_reasons.specs.declared.explainer.Reason as code
use Rattle.lol_machine.specs.Answers.{Match}
use Rattle.lol_machine.specs.ReportRoom.{HoldsEachReport}
use Rattle.lol_machine.specs.Views.{selectors}
use Rattle.lol_script.specs.AnswerTexts.{end_of_start, started_text}
use Rattle.lol_script.specs.Explaining.{lines_by}
use Rattle.lol_script.specs.Output.{comma_list, lines_of, shown_match}
use Rattle.lol_script.specs.Scripts.{texts_in}
use Rattle.lol_script.proofs.Commas.{map_through, start_written}
use Rattle.lol_script.proofs.explained.Explained.push_started.Goals as goal

pub returns-clause-text : goal.returns-clause-text
returns-clause-text c = on_ok_weaker c.push_reasons.result
    (λ text s explains going few.
    let m = c.args.matcher.now in
    let reasons = reasons_told (texts_in s) m.told in
    let ids : c.report.new.ids.items ≡ ids_with_reasons (texts_in s) m.told = c.report.ensures.reported explains.room going (texts_in s) explains.holds in
    let why : map reason_shown c.in_ok-reasons.reasons.items ≡ reasons = c.in_ok-reasons.ensures.reasons going (texts_in s) explains.holds few in
    let shown = λ (content : Bool) (id : ℕ). shown_match (record { id = id; with_content = content }) in
    let list : List ℕ = comma_list (map shown_match (matches_for m.opened reasons)) in
    let t1 = c.extend_from_slice.new.self.items in
    let listed : c.push_ids.new.text.items ≡ t1 ++ list =
    c.in_ok-push_ids.ensures
    ∙ ((λ i. t1 ++ comma_list (map (shown (c.has_opened.ensures.opened i)) ((c.deref.ensures.value ∙ ids) i)))
    ∙ ap (λ (fields : List (List ℕ)). t1 ++ comma_list fields) (map_through shown_match (λ (id : ℕ). record { id = id; with_content = m.opened }) (ids_with_reasons (texts_in s) m.told))) in
    let line = start_written c.args.text.now.items t1 c.push_ids.new.text.items c.push_start_end.new.text.items list (end_of_start c.args.asked c.args.tries) c.in_ok-extend_from_slice.ensures.items listed c.in_ok-push_start_end.ensures in
    text
    ∙ ((λ i. line i ++ lines_of (lines_by (c.deref-2.ensures.value i) (map reason_shown (c.deref-3.ensures.value i))))
    ∙ ((λ i. (c.args.text.now.items ++ (started_text (matches_for m.opened reasons) c.args.asked c.args.tries ++ 10 ∷ [])) ++ lines_of (lines_by c.args.self.now.lines.items (why i)))
    ∙ append_assoc c.args.text.now.items (started_text (matches_for m.opened reasons) c.args.asked c.args.tries ++ 10 ∷ []) (lines_of (lines_by c.args.self.now.lines.items reasons)))))
    c.push_reasons.ensures
