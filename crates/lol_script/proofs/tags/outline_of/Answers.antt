use Rattle.std.proofs.Common.{sym}
use Rattle.lol_script.proofs.Outlines.{attribute_without, attribute_cut}
use Rattle.lol_script.proofs.tags.outline_of.Goals as goal

pub returns-in-Some-clause-attribute : goal.returns-in-Some-clause-attribute
returns-in-Some-clause-attribute c = attribute_cut c.args.text.now c.args.start c.args.end c.requires.order c.in-Some.offset (sym c.in-Some.ensures)

pub returns-in-None-clause-attribute : goal.returns-in-None-clause-attribute
returns-in-None-clause-attribute c = attribute_without c.args.text.now c.args.start c.args.end c.requires.order (sym c.in-None.ensures)
