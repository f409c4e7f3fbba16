use Rattle.std.proofs.Common.{sym, ◌∙◌, map}
use Rattle.lol_rows.specs.Rows.{name_hash_of}
use Rattle.lol_rows.proofs.Left.{one_less, entry_passes, none_of_hash}
use Rattle.lol_rows.proofs.rows.Rows.has_open_hashed.Goals as goal

pub returns-then-is_left_open-clause-found : goal.returns-then-is_left_open-clause-found
returns-then-is_left_open-clause-found c = λ rows.
    let all = map name_hash_of c.args.instructions.now in
    entry_passes c.args.local_name.now.lowercased c.args.instructions.now c.args.range.now all c.entries_within-entry-items.result.now c.loop-entry.entry-index c.args.hash _ c.loop-entry-test.true
    (λ entry. (c.entries_within-entry-items.ensures all rows.names.table entry).0) (sym c.is_left_open.ensures ∙ c.if-is_left_open.true)

pub loop-entry-preserved : goal.loop-entry-preserved
loop-entry-preserved c =
    one_less c.args.local_name.now.lowercased c.args.instructions.now c.args.range.now c.entries_within-entry-items.result.now c.loop-entry.entry-index _ c.loop-entry-test.true c.loop-entry.invariant
    (sym c.is_left_open.ensures ∙ c.if-is_left_open.false)

pub returns-clause-none : goal.returns-clause-none
returns-clause-none c = λ rows.
    none_of_hash c.args.local_name.now.lowercased c.args.instructions.now c.args.range.now c.entries_within-entry-items.result.now c.loop-entry.entry-index c.args.hash c.loop-entry-test.false c.loop-entry.invariant
    (λ entry. (c.entries_within-entry-items.ensures (map name_hash_of c.args.instructions.now) rows.names.table entry).1)
