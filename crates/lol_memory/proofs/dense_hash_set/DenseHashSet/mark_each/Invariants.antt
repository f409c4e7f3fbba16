use Rattle.std.proofs.Common.{◌≡◌, ◌/◌, ℕ, true}
use Rattle.lol_memory.specs.Ids.{has}
use Rattle.lol_memory.specs.Words.{IsTrim, ids_held}
use Rattle.lol_memory.specs.WordsOf.{words_of, IsInForm, HasWord}
use Rattle.lol_memory.proofs.UnionLemmas.{HasAlso}
use Rattle.lol_memory.proofs.dense_hash_set.DenseHashSet.mark_each.Given as goal

abbrev pub invariant-loop-id : goal.invariant-loop-id
invariant-loop-id l = record {
  trim : IsTrim (words_of l.self-inside.words);
  form : IsInForm l.self-inside.words;
  room : (q : ℕ) → has l.other q ≡ true → HasWord l.self-inside.words (q / 32);
  also : HasAlso l.fn.self l.yielded (ids_held (words_of l.self-inside.words));
}
