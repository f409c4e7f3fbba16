use Rattle.std.proofs.Common.{sym}
use Rattle.lol_memory.proofs.SparseLemmas.{length-all_words}
use Rattle.lol_memory.proofs.sparse_words.word_count.Goals as goal

pub returns : goal.returns
returns c = sym (length-all_words c.args.words.now)
