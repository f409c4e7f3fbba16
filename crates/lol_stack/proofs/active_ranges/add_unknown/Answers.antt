use Rattle.std.proofs.Common.{◌≤◌, take, ◌≡◌, ◌++◌, ◌∷◌, [], ◌∙◌, ◌+◌, List, ℕ, suc, length, drop, get_or, drop-cons, subst, sym, ap, arith}
use Rattle.std.specs.Prelude.{if◌then◌else◌}
use Rattle.std.proofs.lemmas.Grind.{common_steps}
use Rattle.std.specs.declared.ops.Range.{Range}
use Rattle.lol_stack.specs.Active.{activated}
use Rattle.lol_stack.specs.WithRange.{no_range}
use Rattle.lol_stack.specs.Spans.{HasSpans}
use Rattle.lol_stack.proofs.SpanLemmas.{kept_next, longer_next, activated_next, spans_next}
use Rattle.lol_stack.proofs.active_ranges.add_unknown.Goals as goal
use Rattle.lol_stack.proofs.active_ranges.add_unknown.Goals.{then-branch, else-branch}

pub loop-range-preserved : goal.loop-range-preserved
loop-range-preserved c =
    let ranges = c.args.ranges.now in
    let depth = c.args.depth in
    let at = c.loop-range.range-index in
    let a = get_or ranges at no_range in
    let now = c.loop-range.active.items in
    let so_far = c.loop-range.invariant in
    let told = c.in_ok-insert.ensures in
    let added = c.in_ok-insert.field-0 in
    let next : List (Range ℕ × ℕ) = if added then now ++ (a, depth) ∷ [] else now in
    let is : c.if-branch.active.items ≡ next =
    elim c.if-branch.branch [
      | then-branch w ↦ grind (arith, common_steps, w.active-is, w.push_reserved.ensures, w.if-branch.true)
      | else-branch w ↦ grind (arith, common_steps, w.active-is, w.if-branch.false)
    ] in
    let on : suc at ≡ at + 1 = omega arith in
    let later : drop at ranges ≡ a ∷ drop (at + 1) ranges = drop-cons ranges at no_range c.loop-range-test.true ∙ ap (λ n. a ∷ drop n ranges) on in
    let spans = spans_next c.loop-range.known c.insert.new.self now a depth so_far.spans added told.added told.updates told.unchanged in
    let first = c.args.active.now.items in
    record {
      room = elim c.if-branch.branch [
        | then-branch w ↦ grind (arith, common_steps, w.active-is, w.push_reserved.ensures, so_far.room, ap length later)
        | else-branch w ↦ grind (arith, common_steps, w.active-is, so_far.room, ap length later)
      ];
      rest = ap (λ xs. activated xs depth (drop (at + 1) ranges)) is ∙ (sym (activated_next c.loop-range.known c.insert.new.self now a depth so_far.spans added told.added (drop (at + 1) ranges)) ∙ (ap (activated now depth) (sym later) ∙ so_far.rest));
      spans = subst (HasSpans c.insert.new.self) (sym is) spans;
      longer = subst (λ xs. length first ≤ length xs) (sym is) (longer_next added now (a, depth) (length first) so_far.longer);
      kept = subst (λ xs. take (length first) xs ≡ first) (sym is) (kept_next added now first (a, depth) (length first) so_far.longer so_far.kept);
    }
