use Rattle.std.proofs.Common.{◌∙◌, sym, ap, inl, inr, nat_eq, ◌||◌}
use Rattle.std.specs.Cmp.{unsigned_tied, unsigned_Decides}
use Rattle.lol_memory.specs.Ids.{has}
use Rattle.lol_memory.specs.SetLaws.{same_set, has-no_ids, has-with_id, has-union}
use Rattle.lol_memory.specs.AscendingLaws.{either_passes, passes_by, has_from_listed, listed_from_has}
use Rattle.lol_memory.proofs.laws.sets_are_known_by_their_ids.Goals as goal

pub returns-clause-equal : goal.returns-clause-equal
returns-clause-equal c = same_set

pub returns-clause-listed : goal.returns-clause-listed
returns-clause-listed c s q = (listed_from_has s q, has_from_listed s q)

pub returns-clause-none : goal.returns-clause-none
returns-clause-none c = has-no_ids

pub returns-clause-one_more : goal.returns-clause-one_more
returns-clause-one_more c s id q =
    let is = has-with_id s id q ∙ ap (λ b. b || has s q) (unsigned_tied q id) in (
      λ held. elim (either_passes (nat_eq q id) (has s q) (sym is ∙ held)) [ inl same ↦ inl ((unsigned_Decides q id).0 same) | inr before ↦ inr before ],
      λ held. is ∙ passes_by (nat_eq q id) (has s q) (elim held [ inl same ↦ inl ((unsigned_Decides q id).1 same) | inr before ↦ inr before ]),
    )

pub returns-clause-joined : goal.returns-clause-joined
returns-clause-joined c s t q =
    (λ held. either_passes (has s q) (has t q) (sym (has-union s t q) ∙ held), λ held. has-union s t q ∙ passes_by (has s q) (has t q) held)
