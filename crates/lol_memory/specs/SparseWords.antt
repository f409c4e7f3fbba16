-- Words with their numbers, in ascending order: those that aren't there are 0.
use Rattle.std.specs.Prelude.{◌≡◌, ◌≢◌, ℕ, ◌+◌, ◌-◌, ◌<◌, ◌≤◌, ◌⊎◌, List, [], ◌∷◌, length, get_or, map, nat_eq, cond, slice_index_or}
use Rattle.std.specs.List.{range_with_len}
use Rattle.lol_memory.specs.declared.sparse_words.SparseWord.{SparseWord}

abbrev pub no_word : SparseWord
no_word = record { number = 0; bits = 0 }

-- the number and the bits of the word at an index
abbrev pub number_at : List SparseWord → ℕ → ℕ
number_at ws i = (slice_index_or ws i no_word).number

abbrev pub bits_at : List SparseWord → ℕ → ℕ
bits_at ws i = (slice_index_or ws i no_word).bits

-- the bits of the word at a number
abbrev pub word_at : List SparseWord → ℕ → ℕ
word_at [] number = 0
word_at (w ∷ ws) number = cond (nat_eq w.number number) w.bits (word_at ws number)

-- the numbers ascend
abbrev pub Ascend : List SparseWord → Type 0
Ascend ws = (i j : ℕ) → i < j → j < length ws → number_at ws i < number_at ws j

-- how many words there are up to the last
abbrev pub word_count : List SparseWord → ℕ
word_count ws = number_at ws (length ws - 1) + 1

-- the list of all words
unfoldable pub all_words : List SparseWord → List ℕ
all_words ws = map (word_at ws) (range_with_len 0 (word_count ws))

-- the first word, and in ascending order those that hold an id
pub record IsSparse (ws : List SparseWord) : Type 0 where
  pub some : 0 < length ws
  pub first : number_at ws 0 ≡ 0
  pub ascend : Ascend ws
  pub held : (i : ℕ) → 0 < i → i < length ws → bits_at ws i ≢ 0

-- the word at the index is that of the number
pub record IsAt (ws : List SparseWord) (number i : ℕ) : Type 0 where
  pub in_range : i < length ws
  pub is : number_at ws i ≡ number

-- a word of the number would go to the index: lower numbers stand before it, higher ones from it on
pub record IsGapFor (ws : List SparseWord) (number i : ℕ) : Type 0 where
  pub in_range : i ≤ length ws
  pub lower : (j : ℕ) → j < i → number_at ws j < number
  pub higher : (j : ℕ) → i ≤ j → j < length ws → number < number_at ws j

-- a word of the number is there
abbrev pub HasNumber : List SparseWord → ℕ → Type 0
HasNumber ws number = (i : ℕ) × IsAt ws number i

-- those of the first n words of a list that hold ids, and the first
pub record IsScattered (list : List ℕ) (n : ℕ) (ws : List SparseWord) : Type 0 where
  pub first : 0 < n → (0 < length ws) × (number_at ws 0 ≡ 0)
  pub below : (i : ℕ) → i < length ws → number_at ws i < n
  pub ascend : Ascend ws
  pub held : (i : ℕ) → 0 < i → i < length ws → bits_at ws i ≢ 0
  pub same : (j : ℕ) → j < n → word_at ws j ≡ get_or list j 0

-- the words before the index i are of numbers below n, and the others of numbers from n on
pub record IsCut (ws : List SparseWord) (i n : ℕ) : Type 0 where
  pub in_range : i ≤ length ws
  pub before : (k : ℕ) → k < i → number_at ws k < n
  pub from : (k : ℕ) → i ≤ k → k < length ws → n ≤ number_at ws k

-- the lower of the first numbers of two lists from the indices i and j on
pub record IsLowest (ws : List SparseWord) (i : ℕ) (vs : List SparseWord) (j number : ℕ) : Type 0 where
  pub first : i < length ws → number ≤ number_at ws i
  pub second : j < length vs → number ≤ number_at vs j
  pub there : ((i < length ws) × (number_at ws i ≡ number)) ⊎ ((j < length vs) × (number_at vs j ≡ number))
