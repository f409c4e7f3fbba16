use Rattle.std.proofs.Common.{◌≡◌, length}
use Rattle.lol_memory.proofs.FormLemmas.{IsGathered}
use Rattle.lol_memory.proofs.sparse_words.gather.Given as goal

abbrev pub invariant-loop-word : goal.invariant-loop-word
invariant-loop-word l = (length l.list.items ≡ l.len) × IsGathered l.words l.list.items l.word-index
