use Rattle.std.proofs.Common.{◌≡◌, ◌++◌, Some, List, ℕ, arith, filter, map, get_or, slice_get, sym, ap, ◌∙◌, append-nil}
use Rattle.std.specs.Option.{option_map}
use Rattle.std.proofs.lemmas.List.{take_all, length-map}
use Rattle.std.proofs.lemmas.Option.{slice_get-get_or, slice_get-map}
use Rattle.lol_rows.specs.Rows.{leaves, passes_at}
use Rattle.lol_rows.specs.KeyRows.{address_of}
use Rattle.lol_rows.proofs.Left.{next_added}
use Rattle.lol_rows.proofs.key_rows.add_left_entries.Goals as goal
use Rattle.lol_rows.proofs.key_rows.add_left_entries.Goals.{then-leave+in_ok-push, else-leave}

pub loop-entry-init : goal.loop-entry-init
loop-entry-init c = sym (append-nil c.args.found.now.items)

pub loop-entry-preserved : goal.loop-entry-preserved
loop-entry-preserved c =
    let q = passes_at (leaves c.args.keys.now) c.args.instructions.now in
    let all = map address_of c.args.row.now in
    let at : slice_get all c.loop-entry.entry-index ≡ Some (get_or c.args.row.now c.loop-entry.entry-index _).address =
    slice_get-map address_of c.args.row.now c.loop-entry.entry-index ∙ ap (option_map address_of) (slice_get-get_or c.args.row.now c.loop-entry.entry-index _ c.loop-entry-test.true) in
    elim c.if-leave.branch [
      | then-leave+in_ok-push w ↦
          rw w.found-is (next_added q all c.loop-entry.entry-index _ _ c.args.found.now.items c.loop-entry.found.items w.push.new.self.items at c.loop-entry.invariant (sym c.leave.ensures ∙ w.if-leave.true) w.in_ok-push.ensures.items)
      | else-leave w ↦
          rw w.found-is (next_added q all c.loop-entry.entry-index _ _ c.args.found.now.items c.loop-entry.found.items c.loop-entry.found.items at c.loop-entry.invariant (sym c.leave.ensures ∙ w.if-leave.false) (sym (append-nil c.loop-entry.found.items)))
    ]

pub returns : goal.returns
returns c =
    c.loop-entry.invariant ∙ ap (λ (l : List ℕ). c.args.found.now.items ++ filter (passes_at (leaves c.args.keys.now) c.args.instructions.now) l) (take_all c.loop-entry.entry-index (map address_of c.args.row.now) (omega (arith, length-map c.args.row.now address_of, c.loop-entry-test.false)))
