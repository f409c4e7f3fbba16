use Rattle.std.proofs.Common.{sym, ◌∙◌, arith}
use Rattle.lol_instructions.proofs.AttributeValues.{SoFar-init, SoFar-found, SoFar-next, SoFar-more, SoFar-end}
use Rattle.lol_instructions.proofs.attribute_value.has_word_split.Goals as goal
use Rattle.lol_instructions.proofs.attribute_value.has_word_split.Goals.{then-is_white_space+else-is_equal, else-is_white_space}

pub loop-end-init : goal.loop-end-init
loop-end-init c = SoFar-init c.args.case c.args.value.now c.args.operand.now

pub returns-then-is_equal : goal.returns-then-is_equal
returns-then-is_equal c =
    sym (SoFar-found c.args.case c.args.value.now c.args.operand.now c.loop-end.start c.loop-end.end c.loop-end.invariant (omega arith) (sym c.if-is_white_space.ensures) (sym c.if-is_equal.ensures))

pub loop-end-preserved : goal.loop-end-preserved
loop-end-preserved c =
    elim c.if-is_white_space.branch [
      | then-is_white_space+else-is_equal w ↦ let next = SoFar-next c.args.case c.args.value.now c.args.operand.now c.loop-end.start c.loop-end.end c.loop-end.invariant (omega arith) (sym w.if-is_white_space.ensures) (sym w.if-is_equal.ensures) in rw w.start-is next
      | else-is_white_space w ↦ let next = SoFar-more c.args.case c.args.value.now c.args.operand.now c.loop-end.start c.loop-end.end c.loop-end.invariant (sym w.if-is_white_space.ensures) in rw w.start-is next
    ]

pub returns : goal.returns
returns c =
    c.is_equal-2.ensures ∙ SoFar-end c.args.case c.args.value.now c.args.operand.now c.loop-end.start c.loop-end.end c.loop-end.invariant c.loop-end-test.false c.loop-end.auto.end-end
