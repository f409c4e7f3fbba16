use Rattle.std.proofs.Common.{Contains, List, ℕ, ◌↔◌, eqb, subst, sym}
use Rattle.std.proofs.lemmas.List.Filters.{dedup_is}
use Rattle.lol_rows.proofs.Found.{same_members}
use Rattle.lol_rows.proofs.tag_hashes.drop_repeated.Goals as goal

pub returns-then-len-gt-FEW_HASHES : goal.returns-then-len-gt-FEW_HASHES
returns-then-len-gt-FEW_HASHES c = λ hash.
    let sorted = c.sort_unstable.new.self.items in
    subst (λ (l : List ℕ). Contains l hash ↔ Contains c.args.hashes.now.items hash) (sym (dedup_is eqb sorted c.dedup.new.self.items c.dedup.ensures.filtered))
    (same_members c.args.hashes.now.items sorted c.sort_unstable.ensures.permutation hash)
