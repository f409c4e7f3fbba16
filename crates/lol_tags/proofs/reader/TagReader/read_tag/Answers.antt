-- The bytes before the last, and that one.
use Rattle.std.proofs.Common.{◌++◌, [], get_or, sym, ap, ◌∙◌}
use Rattle.lol_tags.specs.Runs.{with_some}
use Rattle.lol_tags.specs.Reading.{step, ended}
use Rattle.lol_tags.proofs.Steps.{run-more, given-more}
use Rattle.lol_tags.proofs.reader.TagReader.read_tag.Goals as goal

pub returns-then-before-rest-clause-after : goal.returns-then-before-rest-clause-after
returns-then-before-rest-clause-after c =
    c.finish-tag.ensures.after ∙ run-more step c.args.self.now c.pass-before.new.self c.args.rest.now c.pass-before.result c.if-before-rest.true c.pass-before.ensures.after

pub returns-then-before-rest-clause-tags : goal.returns-then-before-rest-clause-tags
returns-then-before-rest-clause-tags c =
    let more = given-more step ended c.args.self.now c.pass-before.new.self c.args.rest.now c.pass-before.result c.if-before-rest.true c.pass-before.ensures.after in
    let last = with_some (ended c.pass-before.new.self (get_or c.args.rest.now c.pass-before.result 0)) [] in
    ap (λ tag. with_some tag []) c.finish-tag.ensures.tag ∙ sym (more ∙ ap (λ tags. tags ++ last) c.pass-before.ensures.tags)
