-- One byte more.
use Rattle.std.proofs.Common.{sym, ap, ◌∙◌, arith}
use Rattle.lol_tags.specs.Attributes.{is_attribute_name}
use Rattle.lol_tags.specs.Idling.{in_name}
use Rattle.lol_tags.proofs.Names.{each-more}
use Rattle.lol_tags.proofs.front.name_len.Goals as goal

pub loop-i-preserved : goal.loop-i-preserved
loop-i-preserved c =
    let name = sym (c.is_attribute_name.ensures ∙ ap (λ s. is_attribute_name s) c.attribute_name.ensures) ∙ c.if-not-is_attribute_name.false in
    record {
      within = omega (arith, c.loop-i-test.true);
      name = each-more (λ b. in_name b) c.args.rest.now c.loop-i.i c.loop-i-test.true c.loop-i.invariant.name name;
    }
