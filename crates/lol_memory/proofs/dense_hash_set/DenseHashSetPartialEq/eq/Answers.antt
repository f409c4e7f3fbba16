use Rattle.std.proofs.Common.{◌∙◌}
use Rattle.lol_memory.specs.Ids.{same_ids}
use Rattle.lol_memory.specs.WordsOf.{words_of}
use Rattle.lol_memory.proofs.WordsLemmas.{words_decide}
use Rattle.lol_memory.proofs.dense_hash_set.DenseHashSetPartialEq.eq.Goals as goal

pub returns : goal.returns
returns c =
    words_decide (words_of c.self.inside.words) (words_of c.other.inside.words) c.self.invariant.0 c.other.invariant.0 c.is_same.result c.is_same.ensures
    ∙ (λ i. same_ids (c.self.view_is i) (c.other.view_is i))
