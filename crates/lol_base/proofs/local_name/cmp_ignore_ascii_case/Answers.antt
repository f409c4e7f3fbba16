use Rattle.std.proofs.Common.{◌∙◌, sym, arith}
use Rattle.lol_base.proofs.ByteOrder.{cmp_from-more, cmp_from-found, cmp_from-end}
use Rattle.lol_base.proofs.local_name.cmp_ignore_ascii_case.Goals as goal

pub returns-then-ne : goal.returns-then-ne
returns-then-ne c =
    sym (c.loop-at.invariant ∙ cmp_from-found c.args.bytes.now c.args.others.now c.loop-at.at c.cmp-order.result (omega arith) (omega arith)
    (rw (← c.to_ascii_lowercase.ensures.value, ← c.to_ascii_lowercase-in-loop-at.ensures.value) c.cmp-order.ensures) (sym c.ne.ensures ∙ c.if-ne.true))

pub loop-at-preserved : goal.loop-at-preserved
loop-at-preserved c =
    c.loop-at.invariant ∙ cmp_from-more c.args.bytes.now c.args.others.now c.loop-at.at c.cmp-order.result (omega arith) (omega arith)
    (rw (← c.to_ascii_lowercase.ensures.value, ← c.to_ascii_lowercase-in-loop-at.ensures.value) c.cmp-order.ensures) (sym c.ne.ensures ∙ c.if-ne.false)

pub returns : goal.returns
returns c = c.cmp.ensures ∙ sym (c.loop-at.invariant ∙ cmp_from-end c.args.bytes.now c.args.others.now c.loop-at.at (omega arith))
