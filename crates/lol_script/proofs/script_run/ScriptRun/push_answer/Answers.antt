use Rattle.std.proofs.Common.{rules, ◌≡◌, ◌++◌, ◌∷◌, [], List, ℕ, Option, Some, None, map, refl, sym, ap, ◌∙◌, subst}
use Rattle.std.proofs.lemmas.List.{append-nil}
use Rattle.std.proofs.lemmas.Result.{on_ok_weaker}
use Rattle.lol_matcher.specs.Explaining.{reasons_told}
use Rattle.lol_matcher.specs.Plain.{matches_for}
use Rattle.lol_memory.specs.declared.match_info.MatchInfo.{MatchInfo}
use Rattle.lol_machine.specs.Views.{match_of}
use Rattle.lol_script.specs.AnswerTexts.{started_text}
use Rattle.lol_script.specs.Explaining.{IsReasoned, lines_by}
use Rattle.lol_script.specs.Output.{lines_of}
use Rattle.lol_script.specs.Scripts.{texts_in}
use Rattle.lol_script.specs.declared.explained.Explained.{Explained}
use Rattle.lol_script.proofs.StartTags.{line_is}
use Rattle.lol_script.proofs.script_run.ScriptRun.push_answer.Goals as goal

pub returns-in-None-clause-text : goal.returns-in-None-clause-text
returns-in-None-clause-text c = on_ok_weaker c.push_started.result
    (λ text.
    let old = c.args.self.now in
    let m = old.matcher in
    let line = line_is m old.shows_tries c.args.asked c.shown_tries-tries.result c.shown_tries-tries.ensures (map match_of m.matched) in
    let written = text ∙ ((λ i. old.written.text.items ++ (started_text (map (λ (info : MatchInfo). match_of info) (c.matches.ensures.matched i)) c.args.asked c.shown_tries-tries.result ++ 10 ∷ []))
    ∙ ((λ i. old.written.text.items ++ (line i ++ 10 ∷ [])) ∙ sym (ap (λ (l : List ℕ). old.written.text.items ++ l) (append-nil _)))) in
    subst (λ (o : Option Explained). IsReasoned m old.shows_tries c.args.asked old.written.text.items c.push_started.new.text.items o o) (sym c.in-None.is) (refl, written))
    c.push_started.ensures
