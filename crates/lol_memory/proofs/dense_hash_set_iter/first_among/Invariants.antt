use Rattle.lol_memory.proofs.IterLemmas.{PassesWords}
use Rattle.lol_memory.proofs.dense_hash_set_iter.first_among.Given as goal

abbrev pub invariant-loop-index : goal.invariant-loop-index
invariant-loop-index l = PassesWords l.words l.from l.index
