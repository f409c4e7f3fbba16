use Rattle.std.proofs.Common.{ℕ, ◌+◌, ◌-◌, length}
use Rattle.lol_memory.proofs.MergeLemmas.{IsMerged}
use Rattle.lol_memory.proofs.sparse_words.merge.Given as goal

abbrev pub decreases-loop-number : goal.decreases-loop-number
decreases-loop-number l = (length l.words - l.index) + (length l.more - l.more_index)

abbrev pub invariant-loop-number : goal.invariant-loop-number
invariant-loop-number l = (n : ℕ) × IsMerged l.words l.index l.more l.more_index l.both.items n
