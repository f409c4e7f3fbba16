use Rattle.std.proofs.Common.{arith}
use Rattle.lol_page.proofs.Tape.{told-kept, tag-lines, tag-columns}
use Rattle.lol_page.proofs.page_reader.take_tag.Goals as goal

pub overflow_add-result : goal.overflow_add-result
overflow_add-result c = omega (arith, tag-lines c.args.tags.now c.args.tag c.requires.holds, c.requires.room)

pub overflow_add-result-2 : goal.overflow_add-result-2
overflow_add-result-2 c = omega (arith, tag-columns c.args.tags.now c.args.tag c.requires.holds, c.requires.room)

pub returns-clause-kept : goal.returns-clause-kept
returns-clause-kept c =
    told-kept c.args.tags.now c.set_foreign.new.self c.is_foreign.result c.requires.kept c.set_foreign.ensures
    (c.unfinished_tags_are_kept.ensures.told c.args.tags.now.past.read c.is_foreign.result c.args.tags.now.reader c.requires.kept.read)
