use Rattle.std.proofs.Common.{◌≡◌, ◌∷◌, ap, drop}
use Rattle.std.specs.Str.{byte}
use Rattle.lol_css.specs.Tokens.{Delim}
use Rattle.lol_css.specs.AnPlusB.{after_n}
use Rattle.lol_css.proofs.syntax.an_plus_b.after_n.Goals as goal

pub returns-in-Some-Delim-eq43 : goal.returns-in-Some-Delim-eq43
unfolding after_n
returns-in-Some-Delim-eq43 c =
    let first : c.args.reader.now ≡ Delim (byte "+") ∷ drop 1 c.args.reader.now = cc c.in-Some-Delim-eq43.ensures in
    rw (ap after_n first) (rw c.advance.ensures at c.digits_of_b.ensures)

pub returns-in-Some-Delim-eq45 : goal.returns-in-Some-Delim-eq45
unfolding after_n
returns-in-Some-Delim-eq45 c =
    let first : c.args.reader.now ≡ Delim (byte "-") ∷ drop 1 c.args.reader.now = cc c.in-Some-Delim-eq45.ensures in
    rw (ap after_n first) (rw c.advance-in-Some-Delim-eq45.ensures at c.digits_of_b-in-Some-Delim-eq45.ensures)
