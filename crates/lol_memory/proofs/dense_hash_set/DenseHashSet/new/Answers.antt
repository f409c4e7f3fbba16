use Rattle.lol_memory.proofs.WordsLemmas.{ids_held-nothing}
use Rattle.lol_memory.proofs.dense_hash_set.DenseHashSet.new.Goals as goal

pub returns : goal.returns
returns c = ids_held-nothing
