-- One part, and then another.
use Rattle.std.proofs.Common.{[], sym}
use Rattle.lol_tags.specs.Reading.{step, ended}
use Rattle.lol_tags.proofs.Steps.{run-part, given-part}
use Rattle.lol_tags.proofs.reader.TagReader.begin_attribute.Goals as goal

pub returns-clause-after : goal.returns-clause-after
returns-clause-after c =
    run-part step c.args.self.now c.skip_spaces-spaces.new.self c.go_on_with_name.new.self c.args.rest.now c.skip_spaces-spaces.result c.go_on_with_name.result
    c.skip_spaces-spaces.ensures.after c.go_on_with_name.ensures.after

pub returns-clause-tags : goal.returns-clause-tags
returns-clause-tags c =
    sym (given-part step ended c.args.self.now c.skip_spaces-spaces.new.self c.args.rest.now c.skip_spaces-spaces.result c.go_on_with_name.result [] []
    c.skip_spaces-spaces.ensures.after (sym c.skip_spaces-spaces.ensures.tags) (sym c.go_on_with_name.ensures.tags))
