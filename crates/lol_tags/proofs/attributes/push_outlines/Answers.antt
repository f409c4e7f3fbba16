use Rattle.lol_tags.proofs.Inside.{pushed-inside}
use Rattle.lol_tags.proofs.attributes.push_outlines.Goals as goal

pub returns-else-is_err-clause-inside : goal.returns-else-is_err-clause-inside
returns-else-is_err-clause-inside c =
    pushed-inside c.args.tag.now c.args.name_end c.new.result c.push_found-pushed.result c.args.outlines.now.items c.push_found-pushed.new.outlines.items
    c.new.ensures c.push_found-pushed.ensures.outlines
