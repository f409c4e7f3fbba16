-- What a set's words are, and which of their forms they have.
use Rattle.std.specs.Prelude.{ℕ, ◌<◌, List, [], ◌∷◌, length, ◌≡◌}
use Rattle.lol_memory.specs.Words.{held_words, AreDense}
use Rattle.lol_memory.specs.SparseWords.{all_words, IsSparse, HasNumber}
use Rattle.lol_memory.specs.declared.words.Words.{Words}
use Rattle.lol_memory.specs.declared.words.Words.TheVariants.{Inline, Heap, Sparse}

-- the list of all words
abbrev pub words_of : Words → List ℕ
words_of (Inline word) = word ∷ []
words_of (Heap words) = words.items
words_of (Sparse words) = all_words words.items

-- the form is that of a list of all words, with no memory for one word
abbrev pub IsList : Words → Type 0
IsList (Inline word) = Unit {0}
IsList (Heap words) = 1 < length words.items
IsList (Sparse words) = ⊥

-- the form is the one for what the words hold
abbrev pub IsInForm : Words → Type 0
IsInForm (Inline word) = Unit {0}
IsInForm (Heap words) = (1 < length words.items) × AreDense (length words.items) (held_words words.items)
IsInForm (Sparse words) = IsSparse words.items × (AreDense (length (all_words words.items)) (held_words (all_words words.items)) → ⊥)

-- there is a word of the number, maybe of 0
abbrev pub HasWord : Words → ℕ → Type 0
HasWord (Inline word) number = number ≡ 0
HasWord (Heap words) number = number < length words.items
HasWord (Sparse words) number = HasNumber words.items number
