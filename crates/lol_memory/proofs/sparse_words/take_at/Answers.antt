use Rattle.std.proofs.Common.{◌≡◌, ◌<◌, ◌∙◌, ℕ, true, List, length, ap, arith, slice_index_or}
use Rattle.std.proofs.lemmas.Bool.Decides.{nat_tests}
use Rattle.std.proofs.lemmas.List.{get_or_default}
use Rattle.std.specs.Prelude.{nat_lt}
use Rattle.lol_memory.specs.SparseWords.{no_word, number_at, bits_at}
use Rattle.lol_memory.specs.declared.sparse_words.SparseWord.{SparseWord}
use Rattle.lol_memory.proofs.MergeLemmas.{taken, not_taken}
use Rattle.lol_memory.proofs.sparse_words.take_at.Goals as goal

-- the word that a look-up gives
module _ (ws : List SparseWord) (i : ℕ) (w : SparseWord) (within : true ≡ nat_lt i (length ws)) (is : w ≡ slice_index_or ws i w) where
  there : i < length ws
  there = grind (arith, nat_tests)

  number : w.number ≡ number_at ws i
  number = ap (λ (w : SparseWord). w.number) (is ∙ get_or_default ws i w no_word there)

  bits : w.bits ≡ bits_at ws i
  bits = ap (λ (w : SparseWord). w.bits) (is ∙ get_or_default ws i w no_word there)

pub returns-in-Some-clause-bits : goal.returns-in-Some-clause-bits
returns-in-Some-clause-bits c =
    let found = c.in-Some.ensures.lookup in
    bits c.args.words.now c.args.index.now c.in-Some.word.now found.0 found.1
    ∙ (taken c.args.words.now c.args.index.now c.args.number c.requires.ascend c.requires.cut (there c.args.words.now c.args.index.now c.in-Some.word.now found.0 found.1)
    (omega (arith, number c.args.words.now c.args.index.now c.in-Some.word.now found.0 found.1, c.if-word-number.true))).0

pub returns-in_default-clause-bits : goal.returns-in_default-clause-bits
returns-in_default-clause-bits c =
    let found = c.in-Some.ensures.lookup in
    (not_taken c.args.words.now c.args.index.now c.args.number c.requires.ascend c.requires.cut
    (λ _ is. omega (arith, number c.args.words.now c.args.index.now c.in-Some.word.now found.0 found.1, c.if-word-number.false, is))).0

pub returns-in_default-2-clause-bits : goal.returns-in_default-2-clause-bits
returns-in_default-2-clause-bits c =
    (not_taken c.args.words.now c.args.index.now c.args.number c.requires.ascend c.requires.cut (λ within _. grind (arith, nat_tests, c.in_default.is, c.get.ensures.lookup.0))).0
