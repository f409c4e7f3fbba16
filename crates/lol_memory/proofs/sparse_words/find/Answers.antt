use Rattle.std.proofs.Common.{rules}
use Rattle.std.proofs.lemmas.List.Sorted.{answers_always}
use Rattle.lol_memory.proofs.SparseLemmas.{searched}
use Rattle.lol_memory.proofs.sparse_words.find.Goals as goal

-- the closure gives a word's number
pub returns : goal.returns
returns c =
    let facts = c.binary_search_by_key.ensures in
    let by_number = facts.position (λ word. word.number) (answers_always _ _ _ (λ f a r g called. search rules)) in
    searched c.args.words.now c.requires c.args.number _ facts.bound by_number
