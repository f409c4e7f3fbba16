use Rattle.std.proofs.Common.{◌≡◌, Option, Some, ◌∙◌, subst, rules}
use Rattle.std.specs.Prelude.{IfSome}
use Rattle.std.proofs.lemmas.Result.{err_from_is_err_and}
use Rattle.lol_script.proofs.program.answer_lines.Goals as goal

at_some : {T : Type 0} (P : T → Type 0) (found : Option T) (x : T) → found ≡ Some x → IfSome found P → P x
at_some P found x is h = subst (λ found. IfSome found P) is h

pub returns-in_err-answer_tags-clause-stop : goal.returns-in_err-answer_tags-clause-stop
returns-in_err-answer_tags-clause-stop g c =
    let p = err_from_is_err_and c.from_residual-in_err-answer_tags.result c.from_residual-in_err-answer_tags.ensures.1 in
    let tags = at_some _ c.in_ok-settings.field-0 c.in-Some.settings c.in-Some.is c.in_ok-settings.ensures.tags in
    rw (p.1, p.2) (c.in_err-answer_tags.ensures.stop c.args.reader.now tags.0 tags.2 (c.in-Ok.ensures tags.0 tags.1) (λ none. tags.3))

pub returns-clause-ok : goal.returns-clause-ok
returns-clause-ok g c =
    let tags = at_some _ c.in_ok-settings.field-0 c.in-Some.settings c.in-Some.is c.in_ok-settings.ensures.tags in
    let whole = c.in_ok-answer_tags.ensures.whole c.args.reader.now tags.0 tags.2 (c.in-Ok.ensures tags.0 tags.1) (λ none. tags.3) in
    (whole.0, whole.1, whole.2, whole.3.2 ∙ c.finish.ensures whole.3.0 whole.3.1)

pub returns-in_default-clause-ok : goal.returns-in_default-clause-ok
returns-in_default-clause-ok g c = search rules
