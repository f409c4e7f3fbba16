use Rattle.std.proofs.Common.{◌≡◌, ◌∙◌, ap, inr, Ok, Err}
use Rattle.std.proofs.lemmas.Result.{err_from_is_err_and}
use Rattle.std.specs.Str.{chars}
use Rattle.lol_css.specs.Points.{preprocessed}
use Rattle.lol_css.specs.Tokens.{tokens_of}
use Rattle.lol_css.specs.Views.{refusal_of}
use Rattle.lol_css.specs.TreeViews.{list_of}
use Rattle.lol_css.proofs.Accepts.{accept-fails, accept-read}
use Rattle.lol_css.proofs.parser.SelectorsParser.parse.Goals as goal

pub returns-in_err-list-clause-err : goal.returns-in_err-list-clause-err
returns-in_err-list-clause-err c =
    let p = err_from_is_err_and c.from_residual-in_err-list.result c.from_residual-in_err-list.ensures.1 in
    let tokens : c.new-parser.result.reader ≡ tokens_of (preprocessed (chars c.args.text.now)) = c.new-parser.ensures ∙ ap tokens_of (c.as_slice.ensures.value ∙ c.in_ok-points.ensures) in
    rw (p.1, p.2) (accept-fails c.args.text.now c.in_err-list.field-0.0 c.list.new.self.reader (rw tokens at c.in_err-list.ensures))

pub returns-in-Ok-clause-ok : goal.returns-in-Ok-clause-ok
returns-in-Ok-clause-ok c =
    let tokens : c.new-parser.result.reader ≡ tokens_of (preprocessed (chars c.args.text.now)) = c.new-parser.ensures ∙ ap tokens_of (c.as_slice.ensures.value ∙ c.in_ok-points.ensures) in
    accept-read c.args.text.now (Ok (list_of c.in-Ok.list)) c.list.new.self.reader (rw (tokens, c.in-Ok.is) at c.in_ok-list.ensures)

pub returns-clause-err : goal.returns-clause-err
returns-clause-err c =
    let tokens : c.new-parser.result.reader ≡ tokens_of (preprocessed (chars c.args.text.now)) = c.new-parser.ensures ∙ ap tokens_of (c.as_slice.ensures.value ∙ c.in_ok-points.ensures) in
    inr (accept-read c.args.text.now (Err (refusal_of c.in-Err.refusal)) c.list.new.self.reader (rw (tokens, c.in-Err.is) at c.in_ok-list.ensures))
