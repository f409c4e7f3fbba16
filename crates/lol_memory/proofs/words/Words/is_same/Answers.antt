use Rattle.std.proofs.Common.{ap, sym, subst, ◌∙◌, rules}
use Rattle.std.proofs.lemmas.Slice.Eq.{slice_eq-Decides}
use Rattle.lol_memory.specs.SparseWords.{all_words}
use Rattle.lol_memory.specs.WordsOf.{IsInForm, words_of}
use Rattle.lol_memory.proofs.SparseLemmas.{same_sparse, word_decides}
use Rattle.lol_memory.proofs.words.Words.is_same.Goals as goal

pub returns-in-Sparse-Sparse : goal.returns-in-Sparse-Sparse
returns-in-Sparse-Sparse c =
    let xs = c.in-Sparse-Sparse.words.items in
    let ys = c.in-Sparse-Sparse.more.items in
    let form = subst IsInForm c.in-Sparse-Sparse.is-0 c.requires.form in
    let form' = subst IsInForm c.in-Sparse-Sparse.is-1 c.requires.other_form in
    let test = slice_eq-Decides word_decides xs ys c.eq-in-Sparse-Sparse.result c.eq-in-Sparse-Sparse.ensures in (
      λ same. ap words_of c.in-Sparse-Sparse.is-0 ∙ (ap all_words (test.0 same) ∙ sym (ap words_of c.in-Sparse-Sparse.is-1)),
      λ same. test.1 (same_sparse xs ys form.0 form'.0 (sym (ap words_of c.in-Sparse-Sparse.is-0) ∙ (same ∙ ap words_of c.in-Sparse-Sparse.is-1))),
    )

pub returns-in_default : goal.returns-in_default
returns-in_default c = search rules
