use Rattle.std.proofs.Common.{◌≡◌, ◌≢◌, ◌≤◌, ◌<◌, ◌+◌, List, ℕ, [], ◌∷◌, ◌∙◌, length, get_or, max, inl, inr, sym, ap, subst, arith}
use Rattle.std.proofs.lemmas.Bool.{cases_lt}
use Rattle.lol_memory.specs.Words.{held_words, AreDense, IsMarked}
use Rattle.lol_memory.specs.SparseWords.{all_words, word_at, IsSparse, IsGapFor}
use Rattle.lol_memory.specs.WordsOf.{IsInForm, HasWord, words_of}
use Rattle.lol_memory.specs.declared.words.Words.{Words}
use Rattle.lol_memory.specs.declared.sparse_words.SparseWord.{SparseWord}
use Rattle.lol_memory.proofs.FormLemmas.{some_words, scattered_marked, scattered_wide, inserted_marked, inserted_sparse, inserted_wide}
use Rattle.lol_memory.proofs.words.Words.scatter.Goals.{In_ok-insert-in-Sparse}
use Rattle.lol_memory.proofs.words.Words.scatter.Goals as goal

abbrev IsWide : List ℕ → ℕ → Type 0
IsWide old number = AreDense (max (length old) (number + 1)) (held_words old + 1) → ⊥

-- the words of a list, which `slice` lent
module _ (self : Words) (form : IsInForm self) (slice : List ℕ) (lent : slice ≡ words_of self) (w : SparseWord) (held : w.bits ≢ 0) (after : length (words_of self) ≤ w.number)
    (ws : List SparseWord) (sparse : IsSparse ws) (last : word_at ws w.number ≡ w.bits) (same : (j : ℕ) → j ≢ w.number → word_at ws j ≡ get_or slice j 0)
    (count : length (all_words ws) ≡ w.number + 1) where
  alike : (j : ℕ) → j ≢ w.number → word_at ws j ≡ get_or (words_of self) j 0
  alike j other = same j other ∙ ap (λ xs. get_or xs j 0) lent

  marked : IsMarked (words_of self) (all_words ws) w.number w.bits
  marked = scattered_marked (words_of self) ws w.number w.bits (some_words self form) after sparse last alike count

  wide : IsWide (words_of self) w.number → AreDense (length (all_words ws)) (held_words (all_words ws)) → ⊥
  wide = scattered_wide (words_of self) ws w.number w.bits (some_words self form) after sparse last alike count held

inline_after : (self : Words) (word number : ℕ) → words_of self ≡ word ∷ [] → number ≢ 0 → length (words_of self) ≤ number
inline_after self word number is later = omega (arith, ap length is)

pub returns-in_ok-scatter-in-Inline-clause-form : goal.returns-in_ok-scatter-in-Inline-clause-form
returns-in_ok-scatter-in-Inline-clause-form c =
    let made = c.in_ok-scatter-in-Inline.ensures in
    let is : words_of c.args.self.now ≡ c.in-Inline.first ∷ [] = ap words_of c.in-Inline.is in
    let later : c.args.word.number ≢ 0 = λ first. c.requires.absent (subst (λ w. HasWord w c.args.word.number) (sym c.in-Inline.is) first) in (
      made.sparse,
      wide c.args.self.now c.requires.form c.from_ref.result.now (c.from_ref.ensures.value ∙ sym is) c.args.word c.requires.held (inline_after c.args.self.now c.in-Inline.first c.args.word.number is later)
          c.in_ok-scatter-in-Inline.field-0.items made.sparse made.last made.same made.count c.requires.wide,
    )

pub returns-in_ok-scatter-in-Inline-clause-ok : goal.returns-in_ok-scatter-in-Inline-clause-ok
returns-in_ok-scatter-in-Inline-clause-ok c =
    let made = c.in_ok-scatter-in-Inline.ensures in
    let is : words_of c.args.self.now ≡ c.in-Inline.first ∷ [] = ap words_of c.in-Inline.is in
    let later : c.args.word.number ≢ 0 = λ first. c.requires.absent (subst (λ w. HasWord w c.args.word.number) (sym c.in-Inline.is) first) in
    marked c.args.self.now c.requires.form c.from_ref.result.now (c.from_ref.ensures.value ∙ sym is) c.args.word c.requires.held (inline_after c.args.self.now c.in-Inline.first c.args.word.number is later)
    c.in_ok-scatter-in-Inline.field-0.items made.sparse made.last made.same made.count

heap_after : (self : Words) (words : List ℕ) (number : ℕ) → words_of self ≡ words → (number < length words → ⊥) → length (words_of self) ≤ number
heap_after self words number is absent = elim (cases_lt number (length words)) [ inl near ↦ absurd (absent near) | inr far ↦ omega (arith, far, ap length is) ]

pub returns-in_ok-scatter-in-Heap-clause-form : goal.returns-in_ok-scatter-in-Heap-clause-form
returns-in_ok-scatter-in-Heap-clause-form c =
    let made = c.in_ok-scatter-in-Heap.ensures in
    let is : words_of c.args.self.now ≡ c.in-Heap.words.items = ap words_of c.in-Heap.is in
    let after = heap_after c.args.self.now c.in-Heap.words.items c.args.word.number is (λ near. c.requires.absent (subst (λ w. HasWord w c.args.word.number) (sym c.in-Heap.is) near)) in (
      made.sparse,
      wide c.args.self.now c.requires.form c.deref.result.now (c.deref.ensures.value ∙ sym is) c.args.word c.requires.held after
          c.in_ok-scatter-in-Heap.field-0.items made.sparse made.last made.same made.count c.requires.wide,
    )

pub returns-in_ok-scatter-in-Heap-clause-ok : goal.returns-in_ok-scatter-in-Heap-clause-ok
returns-in_ok-scatter-in-Heap-clause-ok c =
    let made = c.in_ok-scatter-in-Heap.ensures in
    let is : words_of c.args.self.now ≡ c.in-Heap.words.items = ap words_of c.in-Heap.is in
    let after = heap_after c.args.self.now c.in-Heap.words.items c.args.word.number is (λ near. c.requires.absent (subst (λ w. HasWord w c.args.word.number) (sym c.in-Heap.is) near)) in
    marked c.args.self.now c.requires.form c.deref.result.now (c.deref.ensures.value ∙ sym is) c.args.word c.requires.held after
    c.in_ok-scatter-in-Heap.field-0.items made.sparse made.last made.same made.count

module _ (c : In_ok-insert-in-Sparse) where
  abbrev ws : List SparseWord
  ws = c.in-Sparse.words.items

  gap : IsGapFor ws c.args.word.number c.in-Err.index
  gap = subst (λ xs. IsGapFor xs c.args.word.number c.in-Err.index) c.deref-in-Sparse.ensures.value c.in-Err.ensures.absent

  sparse_before : IsSparse ws
  sparse_before = (subst IsInForm c.in-Sparse.is c.requires.form).0

pub returns-in_ok-insert-in-Sparse-clause-form : goal.returns-in_ok-insert-in-Sparse-clause-form
returns-in_ok-insert-in-Sparse-clause-form c =
    let wide_before : IsWide (all_words (ws c)) c.args.word.number = subst (λ w. IsWide (words_of w) c.args.word.number) c.in-Sparse.is c.requires.wide in
    rw c.in_ok-insert-in-Sparse.ensures.items
    (inserted_sparse (ws c) c.args.word c.in-Err.index (sparse_before c) (gap c) c.requires.held, inserted_wide (ws c) c.args.word c.in-Err.index (sparse_before c) (gap c) c.requires.held wide_before)

pub returns-in_ok-insert-in-Sparse-clause-ok : goal.returns-in_ok-insert-in-Sparse-clause-ok
returns-in_ok-insert-in-Sparse-clause-ok c =
    rw (c.in_ok-insert-in-Sparse.ensures.items, c.in-Sparse.is) (inserted_marked (ws c) c.args.word c.in-Err.index (sparse_before c) (gap c))
