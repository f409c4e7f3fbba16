use Rattle.std.proofs.Common.{◌≡◌, ◌∙◌, arith, inl, inr, ap, sym, subst, get_or, bit_or, set, List}
use Rattle.std.proofs.lemmas.List.{get_or_default}
use Rattle.lol_memory.specs.SparseWords.{no_word, bits_at, all_words, IsAt, IsSparse}
use Rattle.lol_memory.specs.WordsOf.{IsInForm, IsList, HasWord}
use Rattle.lol_memory.specs.Words.{IsMarked}
use Rattle.lol_memory.specs.declared.sparse_words.SparseWord.{SparseWord}
use Rattle.lol_memory.proofs.FormLemmas.{list_marked, dense_marked, sparse_marked, sparse_set, wide_set, numbers_stay}
use Rattle.lol_memory.proofs.words.Words.mark.Goals.{After-self-in-Ok-1}
use Rattle.lol_memory.proofs.words.Words.mark.Goals as goal

pub returns-in-Heap-clause-form : goal.returns-in-Heap-clause-form
returns-in-Heap-clause-form c form =
    let ws = c.in-Heap.words.items in
    let there = subst (λ w. HasWord w c.args.number) c.in-Heap.is c.requires.number in
    let was = subst IsInForm c.in-Heap.is form in
    let word : c.index_mut.result.now ≡ get_or ws c.args.number 0 = c.index_mut.ensures.value ∙ get_or_default ws c.args.number c.index_mut.result.now 0 there in
    let marked = subst (λ b. IsMarked ws (set ws c.args.number (bit_or b c.args.bits)) c.args.number c.args.bits) (sym word) (list_marked ws c.args.number c.args.bits there) in
    (omega (arith, was.0, marked.words), dense_marked ws _ c.args.number c.args.bits there marked was.1)

module _ (c : After-self-in-Ok-1) where
  abbrev ws : List SparseWord
  ws = c.in-Sparse.words.items

  sparse : IsSparse ws
  sparse = elim c.requires.form [
    | inl list ↦ absurd (subst IsList c.in-Sparse.is list)
    | inr form ↦ (subst IsInForm c.in-Sparse.is form).0
  ]

  at : IsAt ws c.args.number c.in-Ok.index
  at = subst (λ xs. IsAt xs c.args.number c.in-Ok.index) c.deref.ensures.value c.in-Ok.ensures.found

  word : c.index_mut-in-Ok.result.now ≡ get_or ws c.in-Ok.index no_word
  word = c.index_mut-in-Ok.ensures.value ∙ get_or_default ws c.in-Ok.index c.index_mut-in-Ok.result.now no_word at.in_range

  abbrev new : SparseWord
  new = record { number = c.index_mut-in-Ok.result.now.number; bits = bit_or c.index_mut-in-Ok.result.now.bits c.args.bits }

  number : c.index_mut-in-Ok.result.now.number ≡ c.args.number
  number = ap (λ (w : SparseWord). w.number) word ∙ at.is

  new_at : IsAt ws c.index_mut-in-Ok.result.now.number c.in-Ok.index
  new_at = subst (λ p. IsAt ws p c.in-Ok.index) (sym number) at

  bits : bit_or c.index_mut-in-Ok.result.now.bits c.args.bits ≡ bit_or (bits_at ws c.in-Ok.index) c.args.bits
  bits = ap (λ (w : SparseWord). bit_or w.bits c.args.bits) word

pub returns-in-Ok-clause-form : goal.returns-in-Ok-clause-form
returns-in-Ok-clause-form c form =
    let was = subst IsInForm c.in-Sparse.is form in
    (sparse_set (ws c) (sparse c) _ c.in-Ok.index c.args.bits (new_at c) (bits c) c.requires.bits, wide_set (ws c) (sparse c) _ c.in-Ok.index c.args.bits (new_at c) (bits c) c.requires.bits was.1)

pub returns-in-Ok-clause-numbers : goal.returns-in-Ok-clause-numbers
returns-in-Ok-clause-numbers c j there =
    numbers_stay (ws c) (sparse c) _ c.in-Ok.index c.args.bits (new_at c) (bits c) j (subst (λ w. HasWord w j) c.in-Sparse.is there)

pub returns-in-Ok-clause-bits : goal.returns-in-Ok-clause-bits
returns-in-Ok-clause-bits c =
    rw c.in-Sparse.is (subst (λ p. IsMarked (all_words (ws c)) (all_words (set (ws c) c.in-Ok.index (new c))) p c.args.bits) (number c) (sparse_marked (ws c) (sparse c) _ c.in-Ok.index c.args.bits (new_at c) (bits c)))
