use Rattle.std.proofs.Common.{◌∙◌, ap, arith, length}
use Rattle.std.proofs.lemmas.List.{get_or_default}
use Rattle.lol_memory.specs.SparseWords.{no_word, all_words, word_at}
use Rattle.lol_memory.specs.declared.sparse_words.SparseWord.{SparseWord}
use Rattle.lol_memory.proofs.SparseLemmas.{held_sparse}
use Rattle.lol_memory.proofs.MergeLemmas.{listed, one_listed, list_form}
use Rattle.lol_memory.proofs.words.Words.in_form.Goals as goal

pub returns-then-len-eq1-clause-same : goal.returns-then-len-eq1-clause-same
returns-then-len-eq1-clause-same c =
    let first = ap (λ (w : SparseWord). w.bits) (c.index.ensures ∙ get_or_default c.args.words.items 0 c.index.result.now no_word c.requires.sparse.some) in
    let len = c.word_count-len.ensures ∙ ap (λ ws. length (all_words ws)) c.deref.ensures.value in
    one_listed c.args.words.items c.requires.sparse c.index.result.now.bits first (omega (arith, len, c.if-len-eq1.true))

pub returns-then-len-clause-same : goal.returns-then-len-clause-same
returns-then-len-clause-same c =
    let len = c.word_count-len.ensures ∙ ap (λ ws. length (all_words ws)) c.deref.ensures.value in
    listed c.args.words.items c.requires.sparse c.in_ok-gather.field-0.items (omega (arith, c.in_ok-gather.ensures.len, len))
    (λ j. c.in_ok-gather.ensures.same j ∙ ap (λ ws. word_at ws j) c.deref-then-len.ensures.value)

pub returns-then-len-clause-form : goal.returns-then-len-clause-form
returns-then-len-clause-form c =
    let len = c.word_count-len.ensures ∙ ap (λ ws. length (all_words ws)) c.deref.ensures.value in
    list_form c.args.words.items c.requires.sparse c.in_ok-gather.field-0.items (returns-then-len-clause-same c)
    (λ one. omega (arith, one, len, c.if-len-eq1.false)) (omega (arith, c.if-len.true, len))

pub returns-clause-form : goal.returns-clause-form
returns-clause-form c =
    let len = c.word_count-len.ensures ∙ ap (λ ws. length (all_words ws)) c.deref.ensures.value in
    (c.requires.sparse, λ dense. omega (arith, dense, c.if-len.false, len, held_sparse c.args.words.items c.requires.sparse))
