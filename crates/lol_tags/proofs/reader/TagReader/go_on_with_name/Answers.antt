-- One part, and then another.
use Rattle.std.proofs.Common.{[], sym}
use Rattle.lol_tags.specs.Reading.{step, ended}
use Rattle.lol_tags.proofs.Steps.{run-part, given-part}
use Rattle.lol_tags.proofs.reader.TagReader.go_on_with_name.Goals as goal

pub returns-clause-after : goal.returns-clause-after
returns-clause-after c =
    run-part step c.args.self.now c.skip_name-name.new.self c.skip_equals_sign.new.self c.args.rest.now c.skip_name-name.result c.skip_equals_sign.result
    c.skip_name-name.ensures.after c.skip_equals_sign.ensures.after

pub returns-clause-tags : goal.returns-clause-tags
returns-clause-tags c =
    sym (given-part step ended c.args.self.now c.skip_name-name.new.self c.args.rest.now c.skip_name-name.result c.skip_equals_sign.result [] []
    c.skip_name-name.ensures.after (sym c.skip_name-name.ensures.tags) (sym c.skip_equals_sign.ensures.tags))
