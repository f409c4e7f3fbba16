use Rattle.std.proofs.Common.{sym, subst}
use Rattle.lol_memory.specs.Ids.{HasRoom}
use Rattle.lol_memory.proofs.FormLemmas.{room_of_word, word_of_room}
use Rattle.lol_memory.proofs.dense_hash_set.DenseHashSet.has_room.Goals as goal

pub returns : goal.returns
returns c =
    let id = c.args.id in (
      λ there. subst (λ s. HasRoom s id) c.self.view_is (room_of_word c.self.inside.words c.self.invariant.0 c.self.invariant.1 id (c.has_word.ensures.0 there)),
      λ room. c.has_word.ensures.1 (word_of_room c.self.inside.words c.self.invariant.0 c.self.invariant.1 id (subst (λ s. HasRoom s id) (sym c.self.view_is) room)),
    )
