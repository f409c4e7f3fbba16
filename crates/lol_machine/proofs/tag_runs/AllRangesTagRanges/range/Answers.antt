use Rattle.lol_machine.proofs.Common.{◌≡◌, ◌+◌, ◌-◌, ◌∷◌, ℕ, length, get_or, arith, sym, ap, ◌∙◌, Range, get_or-append-add, ranges_of_active, tag_ranges}
use Rattle.std.proofs.lemmas.Grind.{common_steps}
use Rattle.std.proofs.Math.ListN.{get_or-map}
use Rattle.lol_stack.specs.WithRange.{no_range}
use Rattle.lol_machine.proofs.tag_runs.AllRangesTagRanges.range.Goals as goal

pub returns-then-index-hereditary : goal.returns-then-index-hereditary
returns-then-index-hereditary c =
    let front = c.args.self.now.entry_points.now ∷ c.args.self.now.jumps.now in
    let k = c.args.index - (1 + length c.args.self.now.jumps.now) in
    let at : c.args.index ≡ length front + k = omega (arith, c.if-index-hereditary.true) in
    sym (
    ap (λ n. get_or (tag_ranges c.args.self.now.entry_points.now c.args.self.now.jumps.now (ranges_of_active c.args.self.now.hereditary_jumps.now)) n no_range) at
    ∙ (get_or-append-add front (ranges_of_active c.args.self.now.hereditary_jumps.now) k no_range ∙ get_or-map (λ (a : Range ℕ × ℕ). a.0) c.args.self.now.hereditary_jumps.now k (no_range, 0)))

pub returns : goal.returns
returns c = grind (arith, common_steps)
