-- The words that an iterator goes over.
use Rattle.std.specs.Prelude.{ℕ, ◌*◌, ◌<◌, ◌≤◌, List, length}
use Rattle.lol_memory.specs.SparseWords.{all_words, number_at, IsSparse}
use Rattle.lol_memory.specs.declared.dense_hash_set_iter.HeldWords.{HeldWords}
use Rattle.lol_memory.specs.declared.dense_hash_set_iter.HeldWords.TheVariants.{List as Listed, Sparse}

-- the list of all words
abbrev pub held_list : HeldWords → List ℕ
held_list (Listed words) = words.now
held_list (Sparse words index) = all_words words.now

-- the ids of the word at the index begin at or below the next id
abbrev pub IsWithin : HeldWords → ℕ → Type 0
IsWithin (Listed words) next_id = Unit {0}
IsWithin (Sparse words index) next_id = IsSparse words.now × (index < length words.now) × (32 * number_at words.now index ≤ next_id)
