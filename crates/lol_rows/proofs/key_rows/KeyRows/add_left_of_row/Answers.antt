use Rattle.std.proofs.Common.{◌++◌, List, ℕ, [], sym, ap, ◌∙◌, append-nil, cond, map, Contains}
use Rattle.lol_base.specs.MemberLaws.{contains_from_among}
use Rattle.lol_base.specs.PlaceLaws.{at_among}
use Rattle.lol_rows.specs.Rows.{leaves}
use Rattle.lol_rows.specs.KeyRows.{address_of}
use Rattle.lol_rows.proofs.Alike.{all_or_none}
use Rattle.lol_rows.proofs.key_rows.KeyRows.add_left_of_row.Goals as goal

pub returns-in_ok-add_entries : goal.returns-in_ok-add_entries
returns-in_ok-add_entries c = λ kind can hash of_one.
    let row = c.args.row.now in
    let first = c.in-Some.first.now in
    let has : Contains row first = contains_from_among row first (at_among row 0 first (sym c.in-Some.ensures.value)) in
    let all = all_or_none kind c.args.instructions.now (leaves c.args.keys.now) can.built.shared row hash first can.built.alike can.decided of_one has (c.if-has.ensures.none can.built.shared can.built.are_shared) in
    c.in_ok-add_entries.ensures ∙ ap (λ (l : List ℕ). c.args.found.now.items ++ l) (sym (all ∙ ap (λ b. cond b (map address_of row) []) (sym c.leave.ensures ∙ c.if-leave.true)))

pub returns-else-leave : goal.returns-else-leave
returns-else-leave c = λ kind can hash of_one.
    let row = c.args.row.now in
    let first = c.in-Some.first.now in
    let has : Contains row first = contains_from_among row first (at_among row 0 first (sym c.in-Some.ensures.value)) in
    let all = all_or_none kind c.args.instructions.now (leaves c.args.keys.now) can.built.shared row hash first can.built.alike can.decided of_one has (c.if-has.ensures.none can.built.shared can.built.are_shared) in
    sym (append-nil c.args.found.now.items) ∙ ap (λ (l : List ℕ). c.args.found.now.items ++ l) (sym (all ∙ ap (λ b. cond b (map address_of row) []) (sym c.leave.ensures ∙ c.if-leave.false)))
