-- One part, and then another.
use Rattle.std.proofs.Common.{[], sym}
use Rattle.lol_tags.specs.Reading.{step, ended}
use Rattle.lol_tags.proofs.Steps.{run-part, given-part}
use Rattle.lol_tags.proofs.reader.TagReader.skip.Goals as goal

pub returns-clause-after : goal.returns-clause-after
returns-clause-after c =
    run-part step c.args.self.now c.read_name-begun.new.self c.skip_idle.new.self c.args.rest.now c.read_name-begun.result c.skip_idle.result
    c.read_name-begun.ensures.after c.skip_idle.ensures.after

pub returns-clause-tags : goal.returns-clause-tags
returns-clause-tags c =
    sym (given-part step ended c.args.self.now c.read_name-begun.new.self c.args.rest.now c.read_name-begun.result c.skip_idle.result [] []
    c.read_name-begun.ensures.after (sym c.read_name-begun.ensures.tags) (sym c.skip_idle.ensures.tags))
