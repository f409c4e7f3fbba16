use Rattle.std.proofs.Common.{sym, ap, subst, get_or, ◌∙◌}
use Rattle.lol_memory.specs.WordsOf.{IsInForm, words_of}
use Rattle.lol_memory.proofs.SparseLemmas.{get_or-all_words}
use Rattle.lol_memory.proofs.words.Words.widen.Goals as goal

pub returns-in_ok-gather-in-Sparse-clause-same : goal.returns-in_ok-gather-in-Sparse-clause-same
returns-in_ok-gather-in-Sparse-clause-same c j =
    let form = subst IsInForm c.in-Sparse.is c.requires.form in
    let here = rw c.deref.ensures.value at (c.in_ok-gather-in-Sparse.ensures.same j) in
    here ∙ (sym (get_or-all_words c.in-Sparse.words.items form.0.ascend j) ∙ ap (λ w. get_or (words_of w) j 0) (sym c.in-Sparse.is))
