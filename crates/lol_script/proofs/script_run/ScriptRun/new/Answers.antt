use Rattle.std.proofs.Common.{refl}
use Rattle.lol_script.proofs.Begun.{begun}
use Rattle.lol_script.proofs.script_run.ScriptRun.new.Goals as goal

pub returns : goal.returns
returns c = λ s reading.
    let made = c.in_ok-matcher.ensures in
    begun c.calls_answer_alike.ensures.alike c.items_answer_as_texts.ensures c.told_is_explained_alike.ensures _ c.args.settings c.with_rows_from-ast.result (c.with_rows_from-ast.ensures reading.rows) s reading refl c.new.ensures
    made.plain made.explained made.explains
