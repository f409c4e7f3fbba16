use Rattle.std.proofs.Common.{sym, ◌∙◌, rules}
use Rattle.std.proofs.lemmas.Result.{err_from_is_err_and}
use Rattle.lol_css.specs.Views.{points_of}
use Rattle.lol_css.proofs.Digits.{rest_of-digits}
use Rattle.lol_css.proofs.syntax.an_plus_b.rest_of.Goals as goal

pub returns-in_err-number : goal.returns-in_err-number
returns-in_err-number c =
    let p = err_from_is_err_and c.from_residual.result c.from_residual.ensures.1 in
    rw (p.1, p.2, rest_of-digits (points_of c.args.name) c.args.reader.now c.in-Some.magnitude (sym c.if-is_word.ensures) (sym c.if-is_word-2.ensures) c.in-Some.ensures.value) (c.in_err-number.ensures c.args.reader.now)

pub returns : goal.returns
returns c =
    rest_of-digits (points_of c.args.name) c.args.reader.now c.in-Some.magnitude (sym c.if-is_word.ensures) (sym c.if-is_word-2.ensures) c.in-Some.ensures.value ∙ search rules
