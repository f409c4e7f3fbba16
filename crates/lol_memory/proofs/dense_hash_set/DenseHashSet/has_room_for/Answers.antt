use Rattle.std.proofs.Common.{List, ℕ, IsTrue, sym, subst, rules}
use Rattle.std.specs.List.{All, Contains}
use Rattle.std.proofs.lemmas.List.Elements.{All-contains, All-weaker, All-contains_itself}
use Rattle.lol_memory.specs.Ids.{HasRoom, ascending}
use Rattle.lol_memory.specs.AscendingLaws.{has_from_listed, listed_from_has}
use Rattle.lol_memory.proofs.dense_hash_set.DenseHashSet.has_room_for.Goals as goal

pub returns : goal.returns
returns c =
    let P : ℕ → Type 0 = HasRoom c.args.self.now in
    let ids : List ℕ = ascending c.args.other.now in
    let all : IsTrue c.all.result → All P c.iter.result = search rules in
    let passes : All P c.iter.result → IsTrue c.all.result = search rules in (
      λ true_is q held. All-contains P ids q (subst (All P) c.iter.ensures.items (all true_is)) (listed_from_has c.args.other.now q held),
      λ room. passes (subst (All P) (sym c.iter.ensures.items) (All-weaker (Contains ids) P (λ q listed. room q (has_from_listed c.args.other.now q listed)) ids (All-contains_itself ids))),
    )
