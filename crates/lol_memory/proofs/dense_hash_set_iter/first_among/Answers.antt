use Rattle.std.proofs.Common.{arith}
use Rattle.lol_memory.proofs.IterLemmas.{passes_more, none_passed, first_in_word, none_in_rest_of_word, none_after_word}
use Rattle.lol_memory.proofs.dense_hash_set_iter.first_among.Goals.{then-at-word+else-rest-ne0, else-at-word}
use Rattle.lol_memory.proofs.dense_hash_set_iter.first_among.Goals as goal

pub returns-then-rest-ne0-clause-first : goal.returns-then-rest-ne0-clause-first
returns-then-rest-ne0-clause-first c =
    first_in_word c.args.words.now c.requires.sparse.ascend c.args.from c.loop-index.index c.max-at.result (omega arith) (omega arith) c.if-at-word.true c.loop-index.invariant (omega arith) c.if-rest-ne0.true

pub loop-index-preserved : goal.loop-index-preserved
loop-index-preserved c =
    let ws = c.args.words.now in
    let k = c.loop-index.index in
    passes_more ws c.requires.sparse.ascend c.args.from k c.loop-index.invariant (elim c.if-at-word.branch [
      | then-at-word+else-rest-ne0 w ↦ none_in_rest_of_word ws c.requires.sparse.ascend c.args.from k c.max-at.result (omega arith) (omega arith) w.if-at-word.true w.if-rest-ne0.false
      | else-at-word w ↦ none_after_word ws c.requires.sparse.ascend c.args.from k c.max-at.result (omega arith) (omega arith) w.if-at-word.false
    ])

pub returns-clause-none : goal.returns-clause-none
returns-clause-none c q low high =
    none_passed c.args.words.now c.requires.sparse.ascend c.args.from c.loop-index.index q c.loop-index.invariant low (λ i after within. absurd (omega arith))
