use Rattle.lol_instructions.proofs.MarkLemmas.{MarkedSoFar}
use Rattle.lol_instructions.proofs.marks.Marks.of_words.Given as goal

-- the words so far are marked
abbrev pub invariant-loop-end : goal.invariant-loop-end
invariant-loop-end l = MarkedSoFar l.value l.marks l.start l.end
