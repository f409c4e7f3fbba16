use Rattle.std.proofs.Common.{◌≡◌, ◌∙◌, ℕ, List, ap, sym, subst, get_or, bit_or, IfOk}
use Rattle.lol_memory.specs.SparseWords.{word_at}
use Rattle.lol_memory.specs.WordsOf.{words_of, IsInForm}
use Rattle.lol_memory.specs.declared.sparse_words.SparseWord.{SparseWord}
use Rattle.lol_memory.proofs.SparseLemmas.{get_or-all_words}
use Rattle.lol_memory.proofs.MergeLemmas.{placed_same}
use Rattle.lol_memory.proofs.words.Words.merge_words.Goals as goal

abbrev HasBits : List ℕ → (ℕ → ℕ) → List SparseWord → Type 0
HasBits words more both = (j : ℕ) → word_at both j ≡ bit_or (get_or words j 0) (more j)

pub returns-in_ok-placed-in-Heap-clause-bits : goal.returns-in_ok-placed-in-Heap-clause-bits
returns-in_ok-placed-in-Heap-clause-bits c =
    let is : (j : ℕ) → word_at c.deref-in-Heap-2.result.now j ≡ get_or (words_of c.args.other.now) j 0 =
    λ j.
    ap (λ ws. word_at ws j) c.deref-in-Heap-2.ensures.value
    ∙ (placed_same c.deref-in-Heap.result.now c.in_ok-placed-in-Heap.field-0.items c.in_ok-placed-in-Heap.ensures j ∙ ap (λ ws. get_or ws j 0) (c.deref-in-Heap.ensures.value ∙ sym (ap words_of c.in-Heap.is))) in
    subst (λ more. IfOk c.merge_placed-in-Heap.result (λ both. HasBits (words_of c.args.self.now) more both.items)) (λ i j. is j i) c.merge_placed-in-Heap.ensures.bits

pub returns-in-Sparse-clause-bits : goal.returns-in-Sparse-clause-bits
returns-in-Sparse-clause-bits c =
    let form = subst IsInForm c.in-Sparse.is c.requires.other_form in
    let is : (j : ℕ) → word_at c.deref-in-Sparse.result.now j ≡ get_or (words_of c.args.other.now) j 0 =
    λ j.
    ap (λ ws. word_at ws j) c.deref-in-Sparse.ensures.value
    ∙ (sym (get_or-all_words c.in-Sparse.words.items form.0.ascend j) ∙ ap (λ ws. get_or ws j 0) (sym (ap words_of c.in-Sparse.is))) in
    subst (λ more. IfOk c.merge_placed-in-Sparse.result (λ both. HasBits (words_of c.args.self.now) more both.items)) (λ i j. is j i) c.merge_placed-in-Sparse.ensures.bits
