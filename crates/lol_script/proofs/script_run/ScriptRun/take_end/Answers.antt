use Rattle.std.proofs.Common.{refl, sym, ◌∙◌}
use Rattle.std.proofs.lemmas.Result.{on_ok_weaker}
use Rattle.lol_machine.specs.Events.{End}
use Rattle.lol_script.proofs.AnswerLines.{refused_stays}
use Rattle.lol_script.proofs.EndTags.{ended_more, end_written, few_before}
use Rattle.lol_script.proofs.script_run.ScriptRun.take_end.Goals as goal

pub returns-then-has_failed : goal.returns-then-has_failed
returns-then-has_failed c = λ s answers. refused_stays c.args.self.now s answers (sym c.has_failed.ensures ∙ c.if-has_failed.true) (End c.args.name.now)

pub returns : goal.returns
returns c = on_ok_weaker c.end_list.result
    (λ ended s answers.
    let going = sym c.has_failed.ensures ∙ c.if-has_failed.false in
    let text = c.extend_from_slice.new.self.items in
    let listed = c.close.ensures.listed text (refl, refl) in
    ended_more c.items_answer_as_texts.ensures c.documents_are_ordered.ensures c.args.self.now _ s answers going c.args.name.now
    (few_before c.tags_told.result _ (c.tags_told.ensures going) c.if-tags_told-eq18446744073709551615.false) refl refl c.close.ensures.ended
    (end_written c.args.self.now.written.text.items text _ _ c.in_ok-extend_from_slice.ensures.items (ended text _ listed)))
    c.end_list.ensures.text
