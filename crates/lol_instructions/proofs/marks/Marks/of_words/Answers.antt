use Rattle.std.proofs.Common.{sym, arith}
use Rattle.lol_instructions.proofs.MarkLemmas.{MarkedSoFar-next, MarkedSoFar-more, MarkedSoFar-end, marks_word}
use Rattle.lol_instructions.proofs.marks.Marks.of_words.Goals as goal
use Rattle.lol_instructions.proofs.marks.Marks.of_words.Goals.{then-is_white_space, else-is_white_space}

pub loop-end-preserved : goal.loop-end-preserved
loop-end-preserved c =
    elim c.if-is_white_space.branch [
      | then-is_white_space w ↦ let next = MarkedSoFar-next c.args.value.now c.loop-end.marks w.with-marks.result c.loop-end.start c.loop-end.end c.loop-end.invariant (omega arith) (sym w.if-is_white_space.ensures) (marks_word c.loop-end.marks w.of_class.result w.with-marks.result _ w.of_class.ensures w.with-marks.ensures) in rw (w.marks-is, w.start-is) next
      | else-is_white_space w ↦ let next = MarkedSoFar-more c.args.value.now c.loop-end.marks c.loop-end.start c.loop-end.end c.loop-end.invariant (sym w.if-is_white_space.ensures) in rw (w.marks-is, w.start-is) next
    ]

pub returns : goal.returns
returns c =
    MarkedSoFar-end c.args.value.now c.loop-end.marks c.with.result c.loop-end.start c.loop-end.end c.loop-end.invariant c.loop-end-test.false c.loop-end.auto.end-end
    (marks_word c.loop-end.marks c.of_class-2.result c.with.result _ c.of_class-2.ensures c.with.ensures)
