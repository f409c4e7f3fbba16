use Rattle.std.proofs.Common.{◌≡◌, ◌<◌, length, subst, arith}
use Rattle.std.proofs.Math.ListN.{length-set}
use Rattle.lol_memory.specs.SparseWords.{number_at, bits_at}
use Rattle.lol_memory.proofs.SparseLemmas.{length-all_words, number_near}
use Rattle.lol_memory.proofs.FormLemmas.{IsGathered, gathered_more, gathered_all}
use Rattle.lol_memory.proofs.sparse_words.gather.Goals as goal

pub index_mut-requires : goal.index_mut-requires
index_mut-requires c =
    omega (arith, number_near c.args.words.now c.loop-word.word-index c.requires.ascend (omega arith), length-all_words c.args.words.now, c.requires.within)

pub loop-word-preserved : goal.loop-word-preserved
loop-word-preserved c =
    let ws = c.args.words.now in
    let list = c.loop-word.list.items in
    let k = c.loop-word.word-index in
    let near : number_at ws k < length list = omega (arith, number_near ws k c.requires.ascend (omega arith), length-all_words ws, c.requires.within) in
    (omega (arith, length-set list (number_at ws k) (bits_at ws k)), gathered_more ws list k c.requires.ascend (omega arith) near c.loop-word.invariant.1)

pub returns-clause-same : goal.returns-clause-same
returns-clause-same c =
    let end : c.loop-word.word-index ≡ length c.args.words.now = omega arith in
    gathered_all c.args.words.now c.loop-word.list.items c.requires.ascend (subst (IsGathered c.args.words.now c.loop-word.list.items) end c.loop-word.invariant.1)
