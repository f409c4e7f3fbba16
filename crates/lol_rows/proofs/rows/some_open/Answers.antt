use Rattle.std.proofs.Common.{arith, sym, ◌∙◌}
use Rattle.lol_rows.specs.Rows.{is_left_open, passes_at}
use Rattle.lol_rows.proofs.Left.{none_next, some_at, none_at}
use Rattle.lol_rows.proofs.rows.some_open.Goals as goal

pub loop-address-init : goal.loop-address-init
loop-address-init c = λ k low less. absurd (omega (arith, low, less))

pub returns-then-is_left_open : goal.returns-then-is_left_open
returns-then-is_left_open c =
    some_at (passes_at (is_left_open c.args.local_name.now.lowercased) c.args.instructions.now) c.args.range.now c.loop-address.address c.loop-address.auto.address c.loop-address-test.true
    (sym c.is_left_open.ensures ∙ c.if-is_left_open.true)

pub loop-address-preserved : goal.loop-address-preserved
loop-address-preserved c =
    none_next (passes_at (is_left_open c.args.local_name.now.lowercased) c.args.instructions.now) c.args.range.now c.loop-address.address c.loop-address.invariant
    (sym c.is_left_open.ensures ∙ c.if-is_left_open.false)

pub returns : goal.returns
returns c =
    none_at (passes_at (is_left_open c.args.local_name.now.lowercased) c.args.instructions.now) c.args.range.now c.loop-address.address c.loop-address.invariant c.loop-address-test.false
