use Rattle.std.proofs.Common.{◌∙◌, sym, arith}
use Rattle.lol_css.specs.Points.{hexadecimal}
use Rattle.lol_css.proofs.Many.{hexadecimal-round, hexadecimal-done, small_next}
use Rattle.lol_css.proofs.syntax.points.hexadecimal.Goals as goal

pub loop-preserved : goal.loop-preserved
loop-preserved c = record {
  value = hexadecimal-round c.loop.counter c.loop.number c.loop.rest.now c.in-Some.digit c.in-Some.after.now (omega arith) c.in-Some.ensures.value ∙ c.loop.invariant.value;
  small = small_next c.loop.number c.in-Some.digit c.loop.counter c.loop.invariant.small c.in-Some.ensures.small;
  shorter = omega (arith, c.in-Some.ensures.shorter);
}

pub returns-clause-value : goal.returns-clause-value
unfolding hexadecimal
returns-clause-value c = sym (hexadecimal-done c.loop.counter c.loop.number c.loop.rest.now (omega arith)) ∙ c.loop.invariant.value
