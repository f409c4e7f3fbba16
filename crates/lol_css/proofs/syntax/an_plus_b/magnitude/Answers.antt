use Rattle.std.proofs.Common.{◌∙◌, arith}
use Rattle.lol_css.proofs.Digits.{magnitude-next}
use Rattle.lol_css.proofs.syntax.an_plus_b.magnitude.Goals as goal

pub loop-digit-preserved : goal.loop-digit-preserved
loop-digit-preserved c = record {
  small = omega (arith, c.with_digit-number.ensures);
  value = magnitude-next 2147483649 c.loop-digit.number c.loop-digit.digit-index c.digit-item.result c.with_digit-number.result c.args.digits.now c.loop-digit-test.true c.digit-item.is c.with_digit-number.ensures ∙ c.loop-digit.invariant.value;
}
