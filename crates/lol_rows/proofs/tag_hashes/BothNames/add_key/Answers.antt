use Rattle.std.proofs.Common.{[], ◌∷◌, subst}
use Rattle.lol_rows.specs.TagHashes.{Adds}
use Rattle.lol_rows.proofs.tag_hashes.BothNames.add_key.Goals as goal

pub returns : goal.returns
returns c = subst (λ l. Adds c.add_both.result c.args.hashes.now.items c.add_both.new.hashes.items l) (λ i. c.pair_hash.ensures i ∷ c.pair_hash-2.ensures i ∷ []) c.add_both.ensures
