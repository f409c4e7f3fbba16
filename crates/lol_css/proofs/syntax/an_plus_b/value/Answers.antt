use Rattle.lol_css.proofs.Digits.{bounded_integer-capped}
use Rattle.lol_css.specs.Points.{decimal}
use Rattle.lol_css.proofs.syntax.an_plus_b.value.Goals as goal

pub returns : goal.returns
returns c rest = rw (← bounded_integer-capped c.args.sign (decimal c.args.digits.now) rest) (rw c.magnitude.ensures at (c.bounded_integer.ensures rest))
