-- One part, and then another.
use Rattle.std.proofs.Common.{[], sym}
use Rattle.lol_tags.specs.Attributes.{attribute_step, attribute_ended}
use Rattle.lol_tags.proofs.Steps.{run-part, given-part}
use Rattle.lol_tags.proofs.attributes.AttributeReader.skip.Goals as goal

pub returns-clause-after : goal.returns-clause-after
returns-clause-after c =
    run-part attribute_step c.args.self.now c.read_name-begun.new.self c.skip_quoted.new.self c.args.rest.now c.read_name-begun.result c.skip_quoted.result
    c.read_name-begun.ensures.after c.skip_quoted.ensures.after

pub returns-clause-none : goal.returns-clause-none
returns-clause-none c =
    sym (given-part attribute_step attribute_ended c.args.self.now c.read_name-begun.new.self c.args.rest.now c.read_name-begun.result c.skip_quoted.result [] []
    c.read_name-begun.ensures.after (sym c.read_name-begun.ensures.none) (sym c.skip_quoted.ensures.none))
