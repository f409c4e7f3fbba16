-- One space more.
use Rattle.std.proofs.Common.{sym, ◌∙◌, arith}
use Rattle.lol_tags.specs.States.{is_space}
use Rattle.lol_tags.proofs.Names.{each-more}
use Rattle.lol_tags.proofs.front.space_len.Goals as goal

pub loop-i-preserved : goal.loop-i-preserved
loop-i-preserved c = record {
  within = omega (arith, c.loop-i-test.true);
  spaces = each-more (λ b. is_space b) c.args.rest.now c.loop-i.i c.loop-i-test.true c.loop-i.invariant.spaces (sym c.is_space.ensures ∙ c.if-not-is_space.false);
}
