-- That comparison and hashing of names keep the laws of `Eq` and `Hash`.
use Rattle.std.proofs.Common.{◌≡◌, ◌≢◌, ◌<◌, true, false, ap, refl, rules, arith, unwrap_or}
use Rattle.std.specs.declared.cmp.Ordering.TheVariants.{Less, Equal, Greater}
use Rattle.std.specs.Ordering.{MatchOrdering, nat_cmp, ordering_then, as_partial_cmp, is_eq}
use Rattle.std.proofs.lemmas.Cmp.{ranked}
use Rattle.std.specs.Cmp.{IsEquivalence, IsPartialEquivalence, IsTotalOrder, IsPartialOrder, partial_equiv_from_equiv, partial_order_from_own_ties, partial_order_from_total}
use Rattle.std.specs.Cmp.Rules.{comparing}
use Rattle.std.specs.Cmp.Lexicographic.{on_texts_equal, slice_cmp, texts_ties}
use Rattle.std.proofs.lemmas.Slice.Eq.{bytes_eq-Decides}
use Rattle.lol_base.specs.LocalNames.{Name, same_local_name, code_or_last, local_name_cmp, name_code, writes_of, name_writes}

-- names that are the same have the same bytes in lower case
pub same_lowercased : (a b : Name) → same_local_name a b ≡ true → a.lowercased ≡ b.lowercased
same_lowercased a b same = (bytes_eq-Decides a.lowercased b.lowercased).0 same

pub same_local_name_equivalence : IsEquivalence same_local_name
same_local_name_equivalence = on_texts_equal (λ (n : Name). n.lowercased)

pub same_local_name_partial : IsPartialEquivalence same_local_name
same_local_name_partial = partial_equiv_from_equiv same_local_name_equivalence

pub name_writes_alike : (a b : Name) → same_local_name a b ≡ true → name_writes a ≡ name_writes b
name_writes_alike a b same = ap (λ name. writes_of (name_code name) name) ((bytes_eq-Decides a.lowercased b.lowercased).0 same)

pub local_name_total_order : IsTotalOrder local_name_cmp
local_name_total_order = search (comparing, rules)

-- names with another code have other bytes
other_bytes : (a b : Name) → code_or_last a ≢ code_or_last b → same_local_name a b ≡ false
other_bytes a b other =
    elim (same_local_name a b) as (λ same. same_local_name a b ≡ same → same ≡ false) [
      | true ↦ λ same. absurd (other (ap (λ name. unwrap_or (name_code name) 18446744073709551615) ((bytes_eq-Decides a.lowercased b.lowercased).0 same)))
      | false ↦ λ differ. refl
    ] refl

pub same_local_name-ties : (a b : Name) → same_local_name a b ≡ is_eq (local_name_cmp a b)
same_local_name-ties a b =
    let by_code = ranked (code_or_last a) (code_or_last b) (nat_cmp (code_or_last a) (code_or_last b)) refl in
    elim (nat_cmp (code_or_last a) (code_or_last b)) as
    (λ o. MatchOrdering o (code_or_last a < code_or_last b) (code_or_last a ≡ code_or_last b) (code_or_last b < code_or_last a)
    → same_local_name a b ≡ is_eq (ordering_then o (slice_cmp nat_cmp a.lowercased b.lowercased))) [
      | Less ↦ λ less. other_bytes a b (λ e. omega arith)
      | Equal ↦ λ equal. texts_ties a.lowercased b.lowercased
      | Greater ↦ λ greater. other_bytes a b (λ e. omega arith)
    ] by_code

pub local_name_partial_order : IsPartialOrder same_local_name (as_partial_cmp local_name_cmp)
local_name_partial_order = partial_order_from_own_ties (partial_order_from_total local_name_total_order) same_local_name-ties
