use Rattle.std.proofs.Common.{◌++◌, List, map, sym, ap, ◌∙◌, append-nil}
use Rattle.std.proofs.lemmas.List.{take_all}
use Rattle.lol_rows.specs.declared.key_table.Entry.{Entry}
use Rattle.lol_rows.specs.KeyRows.{address_of}
use Rattle.lol_rows.proofs.Found.{address_added}
use Rattle.lol_rows.proofs.key_rows.add_entries.Goals as goal

pub loop-entry-init : goal.loop-entry-init
loop-entry-init c = sym (append-nil c.args.found.now.items)

pub loop-entry-preserved : goal.loop-entry-preserved
loop-entry-preserved c =
    address_added c.args.row.now c.loop-entry.entry-index _ c.args.found.now.items c.loop-entry.found.items c.push.new.self.items c.loop-entry-test.true c.loop-entry.invariant c.in_ok-push.ensures.items

pub returns : goal.returns
returns c =
    c.loop-entry.invariant ∙ ap (λ (l : List Entry). c.args.found.now.items ++ map address_of l) (take_all c.loop-entry.entry-index c.args.row.now c.loop-entry-test.false)
