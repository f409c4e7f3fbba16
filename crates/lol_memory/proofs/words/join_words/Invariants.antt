use Rattle.std.proofs.Common.{◌≡◌, ◌<◌, ◌≤◌, ℕ, get_or, bit_or}
use Rattle.lol_memory.proofs.words.join_words.Given as goal

abbrev pub invariant-loop-j : goal.invariant-loop-j
invariant-loop-j l = record {
  joined : (k : ℕ) → k < l.j → get_or l.words k 0 ≡ bit_or (get_or l.fn.words k 0) (get_or l.more k 0);
  rest : (k : ℕ) → l.j ≤ k → get_or l.words k 0 ≡ get_or l.fn.words k 0;
}
