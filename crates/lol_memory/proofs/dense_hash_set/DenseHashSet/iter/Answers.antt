use Rattle.std.proofs.Common.{sym, ap, ◌∙◌}
use Rattle.lol_memory.specs.Ids.{ascending}
use Rattle.lol_memory.specs.WordsOf.{words_of}
use Rattle.lol_memory.proofs.IterLemmas.{keys-ids_held, rest_runs}
use Rattle.lol_memory.proofs.dense_hash_set.DenseHashSet.iter.Goals as goal

pub returns-clause-items : goal.returns-clause-items
returns-clause-items c = c.new.ensures ∙ (sym (keys-ids_held (words_of c.self.inside.words)) ∙ ap ascending c.self.view_is)

pub returns-clause-runs : goal.returns-clause-runs
returns-clause-runs c = rest_runs
