use Rattle.std.proofs.Common.{Contains, List, ℕ, ◌↔◌, ◌∙◌, eqb, subst, sym}
use Rattle.std.specs.List.Sorted.{IsStrictlyIncreasing}
use Rattle.std.proofs.lemmas.List.Filters.{dedup_is}
use Rattle.std.proofs.lemmas.Map.Keys.{IsStrictlyIncreasing-dedup}
use Rattle.lol_rows.proofs.Found.{same_members}
use Rattle.lol_rows.proofs.sorted_hashes.SortedHashes.of.Goals as goal

pub returns : goal.returns
returns c =
    let sorted = c.sort_unstable.new.self.items in
    let is = c.shrink_to_fit.ensures.items ∙ dedup_is eqb sorted c.dedup.new.self.items c.dedup.ensures.filtered in
    record {
      members = λ hash. subst (λ (l : List ℕ). Contains l hash ↔ Contains c.args.hashes.items hash) (sym is) (same_members c.args.hashes.items sorted c.sort_unstable.ensures.permutation hash);
      rise = subst IsStrictlyIncreasing (sym is) (IsStrictlyIncreasing-dedup sorted c.sort_unstable.ensures.sorted);
    }
