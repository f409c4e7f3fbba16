use Rattle.std.proofs.Common.{◌∙◌, subst, arith}
use Rattle.lol_memory.specs.WordsOf.{IsInForm}
use Rattle.lol_memory.proofs.HeldLemmas.{count_held}
use Rattle.lol_memory.proofs.SparseLemmas.{held_sparse}
use Rattle.lol_memory.proofs.words.Words.held_words.Goals as goal

pub returns-in-Heap : goal.returns-in-Heap
returns-in-Heap c =
    let form = subst IsInForm c.in-Heap.is c.requires in
    rw c.in-Heap.is ((rw c.deref.ensures.value at c.count_held.ensures) ∙ count_held c.in-Heap.words.items (omega (arith, form.0)))

pub returns-in-Sparse : goal.returns-in-Sparse
returns-in-Sparse c =
    let form = subst IsInForm c.in-Sparse.is c.requires in
    rw c.in-Sparse.is (omega (arith, held_sparse c.in-Sparse.words.items form.0))
