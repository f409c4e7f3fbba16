use Rattle.lol_memory.specs.SparseWords.{IsScattered}
use Rattle.lol_memory.proofs.sparse_words.placed.Given as goal

abbrev pub invariant-loop-number : goal.invariant-loop-number
invariant-loop-number l = IsScattered l.words l.number l.sparse.items
