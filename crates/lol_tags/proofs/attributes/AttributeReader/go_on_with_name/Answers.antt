-- One part, and then another.
use Rattle.std.proofs.Common.{[], sym}
use Rattle.lol_tags.specs.Attributes.{attribute_step, attribute_ended}
use Rattle.lol_tags.proofs.Steps.{run-part, given-part}
use Rattle.lol_tags.proofs.attributes.AttributeReader.go_on_with_name.Goals as goal

pub returns-clause-after : goal.returns-clause-after
returns-clause-after c =
    run-part attribute_step c.args.self.now c.skip_name-name.new.self c.skip_equals_sign.new.self c.args.rest.now c.skip_name-name.result c.skip_equals_sign.result
    c.skip_name-name.ensures.after c.skip_equals_sign.ensures.after

pub returns-clause-none : goal.returns-clause-none
returns-clause-none c =
    sym (given-part attribute_step attribute_ended c.args.self.now c.skip_name-name.new.self c.args.rest.now c.skip_name-name.result c.skip_equals_sign.result [] []
    c.skip_name-name.ensures.after (sym c.skip_name-name.ensures.none) (sym c.skip_equals_sign.ensures.none))
