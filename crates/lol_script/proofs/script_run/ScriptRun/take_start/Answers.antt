use Rattle.std.proofs.Common.{rules, ◌≡◌, Ok, Err, refl, sym, ◌∙◌, subst}
use Rattle.std.proofs.lemmas.Result.{on_ok_weaker}
use Rattle.lol_machine.specs.Events.{Start}
use Rattle.lol_script.specs.Answering.{AnswersScript}
use Rattle.lol_script.specs.Lines.{start_tag_of}
use Rattle.lol_script.specs.Scripts.{with_event}
use Rattle.lol_script.specs.declared.script_run.Outcome.TheVariants.{Dropped, Reported}
use Rattle.lol_script.specs.declared.script_run.ScriptRun.{ScriptRun}
use Rattle.lol_script.proofs.AnswerLines.{refused_stays}
use Rattle.lol_script.proofs.ReadOn.{at_err, at_ok}
use Rattle.lol_script.proofs.StartTags.{dropped_more, few_heard, reported_more, stopped_more}
use Rattle.lol_script.proofs.script_run.ScriptRun.take_start.Goals as goal

pub returns-then-has_failed : goal.returns-then-has_failed
returns-then-has_failed c = λ s answers. refused_stays c.args.self.now s answers (sym c.has_failed.ensures ∙ c.if-has_failed.true) (Start (start_tag_of c.args.line.now))

pub returns-in-Ok-Dropped : goal.returns-in-Ok-Dropped
returns-in-Ok-Dropped c = on_ok_weaker c.push_line.result
    (λ text s answers.
    let going = sym c.has_failed.ensures ∙ c.if-has_failed.false in
    let is : c.answer_start.result ≡ Ok Dropped = search rules in
    dropped_more c.items_answer_as_texts.ensures c.args.self.now _ s answers going (start_tag_of c.args.line.now) refl refl (at_ok _ c.answer_start.result Dropped is c.answer_start.ensures.started) text)
    c.push_line.ensures

pub returns-in-Ok-Reported : goal.returns-in-Ok-Reported
returns-in-Ok-Reported c = on_ok_weaker c.push_answer.result
    (λ pushed s answers.
    let going = sym c.has_failed.ensures ∙ c.if-has_failed.false in
    let is : c.answer_start.result ≡ Ok (Reported c.in-Ok-Reported.asked) = search rules in
    let started = at_ok _ c.answer_start.result (Reported c.in-Ok-Reported.asked) is c.answer_start.ensures.started in
    subst (λ (later : ScriptRun). AnswersScript later (with_event s (Start (start_tag_of c.args.line.now)))) (sym c.push_answer.ensures.kept)
    (reported_more c.items_answer_as_texts.ensures c.args.self.now _ s answers going (start_tag_of c.args.line.now) refl c.in-Ok-Reported.asked started
    (few_heard c.tags_told.result _ _ _ (c.tags_told.ensures going) c.if-tags_told-eq18446744073709551615.false started.goes_on.heard_more) pushed))
    c.push_answer.ensures.text

pub returns-in-Err : goal.returns-in-Err
returns-in-Err c = on_ok_weaker c.refuse.result
    (λ text s answers.
    let going = sym c.has_failed.ensures ∙ c.if-has_failed.false in
    let is : c.answer_start.result ≡ Err c.in-Err.error = search rules in
    subst (λ (later : ScriptRun). AnswersScript later (with_event s (Start (start_tag_of c.args.line.now)))) (sym c.refuse.ensures.kept)
    (stopped_more c.items_answer_as_texts.ensures c.args.self.now _ s answers going (start_tag_of c.args.line.now) refl text.0
    (at_err _ c.answer_start.result c.in-Err.error is c.answer_start.ensures.stopped text.0 text.1) text.2))
    c.refuse.ensures.text
