-- After the idle bytes comes one byte more.
use Rattle.std.proofs.Common.{◌++◌, [], get_or, sym, ap, ◌∙◌}
use Rattle.lol_tags.specs.Runs.{with_some}
use Rattle.lol_tags.specs.Attributes.{attribute_step, attribute_ended}
use Rattle.lol_tags.proofs.Steps.{run-more, given-more}
use Rattle.lol_tags.proofs.attributes.AttributeReader.read_part.Goals as goal

pub returns-then-idle-rest-clause-after : goal.returns-then-idle-rest-clause-after
returns-then-idle-rest-clause-after c =
    c.step-found.ensures.after
    ∙ run-more attribute_step c.args.self.now c.skip-idle.new.self c.args.rest.now c.skip-idle.result c.if-idle-rest.true c.skip-idle.ensures.after

pub returns-then-idle-rest-clause-outline : goal.returns-then-idle-rest-clause-outline
returns-then-idle-rest-clause-outline c =
    let more = given-more attribute_step attribute_ended c.args.self.now c.skip-idle.new.self c.args.rest.now c.skip-idle.result c.if-idle-rest.true c.skip-idle.ensures.after in
    let last = with_some (attribute_ended c.skip-idle.new.self (get_or c.args.rest.now c.skip-idle.result 0)) [] in
    ap (λ x. with_some x []) c.step-found.ensures.outline ∙ sym (more ∙ ap (λ xs. xs ++ last) c.skip-idle.ensures.none)
