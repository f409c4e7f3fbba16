use Rattle.std.proofs.Common.{◌≡◌, ◌+◌, ◌-◌, ◌++◌, ◌∷◌, [], ◌∙◌, ap, sym, arith, List, ℕ, Some, length, length-append, append-nil, filter, take, slice_get}
use Rattle.std.proofs.lemmas.List.{take_all}
use Rattle.std.proofs.lemmas.List.FromFn.{length-range_with_len}
use Rattle.lol_rows.specs.Rows.{addresses, leaves, passes_at}
use Rattle.lol_rows.proofs.Left.{filter_before, next_added, range_at}
use Rattle.lol_rows.proofs.tag_keys.TagKeys.add_left.Goals as goal
use Rattle.lol_rows.proofs.tag_keys.TagKeys.add_left.Goals.{then-leave+in-Ok+in_ok-push, else-leave}

pub returns-in_err-push-clause-no_memory : goal.returns-in_err-push-clause-no_memory
returns-in_err-push-clause-no_memory c = λ few room.
    let q = passes_at (leaves c.args.self.now) c.args.instructions.now in
    let all = addresses c.args.range.now in
    let index = c.loop-address.address - c.args.range.now.start in
    let at : slice_get all index ≡ Some c.loop-address.address =
    range_at c.args.range.now.start (c.args.range.now.end - c.args.range.now.start) index (omega (arith, c.loop-address.auto.address, c.loop-address-test.true)) ∙ ap Some (omega (arith, c.loop-address.auto.address)) in
    let before = filter_before q all index c.loop-address.address at (sym c.leave.ensures ∙ c.if-leave.true) in
    let many = ap length c.loop-address.invariant.added ∙ length-append c.args.left.now.items (filter q (take index all)) in
    absurd (omega (arith, room, before, many, c.loop-address.invariant.grows, c.in_err-push.ensures.full))

pub loop-address-preserved : goal.loop-address-preserved
loop-address-preserved c =
    let q = passes_at (leaves c.args.self.now) c.args.instructions.now in
    let all = addresses c.args.range.now in
    let index = c.loop-address.address - c.args.range.now.start in
    let at : slice_get all index ≡ Some c.loop-address.address =
    range_at c.args.range.now.start (c.args.range.now.end - c.args.range.now.start) index (omega (arith, c.loop-address.auto.address, c.loop-address-test.true)) ∙ ap Some (omega (arith, c.loop-address.auto.address)) in
    let next : index + 1 ≡ c.loop-address.address + 1 - c.args.range.now.start = omega (arith, c.loop-address.auto.address) in
    elim c.if-leave.branch [
      | then-leave+in-Ok+in_ok-push w ↦
          rw w.left-is (record {
            added =
                next_added q all index c.loop-address.address _ c.args.left.now.items c.loop-address.left.items w.push.new.self.items at c.loop-address.invariant.added (sym c.leave.ensures ∙ w.if-leave.true) (w.in_ok-push.ensures.items ∙ ap (λ (a : ℕ). c.loop-address.left.items ++ a ∷ []) w.in-Ok.ensures.1)
                ∙ ap (λ n. c.args.left.now.items ++ filter q (take n all)) next;
            grows = omega (arith, c.loop-address.invariant.grows, w.push.ensures.capacity);
          })
      | else-leave w ↦
          rw w.left-is (record {
            added =
                next_added q all index c.loop-address.address _ c.args.left.now.items c.loop-address.left.items c.loop-address.left.items at c.loop-address.invariant.added (sym c.leave.ensures ∙ w.if-leave.false) (sym (append-nil c.loop-address.left.items))
                ∙ ap (λ n. c.args.left.now.items ++ filter q (take n all)) next;
            grows = c.loop-address.invariant.grows;
          })
    ]

pub returns-clause-left : goal.returns-clause-left
returns-clause-left c = λ few.
    c.loop-address.invariant.added
    ∙ ap (λ (l : List ℕ). c.args.left.now.items ++ filter (passes_at (leaves c.args.self.now) c.args.instructions.now) l)
    (take_all (c.loop-address.address - c.args.range.now.start) (addresses c.args.range.now)
    (omega (arith, length-range_with_len c.args.range.now.start (c.args.range.now.end - c.args.range.now.start), c.loop-address-test.false)))
