use Rattle.std.proofs.Common.{◌≡◌, ◌<◌, ◌+◌, ◌*◌, ◌/◌, ◌∙◌, ℕ, true, cond, nat_lt, [], ◌∷◌, get_or, sym, ap, subst, refl, arith}
use Rattle.std.specs.List.{Contains}
use Rattle.std.proofs.lemmas.Bool.Decides.{nat_tests}
use Rattle.lol_memory.specs.Ids.{has, no_ids, with_id, ascending, words_after}
use Rattle.lol_memory.specs.SetLaws.{held_has_room}
use Rattle.lol_memory.specs.AscendingLaws.{has_from_listed, listed_from_has}
use Rattle.lol_memory.proofs.IterLemmas.{keys-with_ids}
use Rattle.lol_memory.proofs.laws.sets_have_room_for_their_ids.Goals as goal

pub returns-clause-held : goal.returns-clause-held
returns-clause-held c = held_has_room

module _ (id : ℕ) where
  listed : ascending (with_id no_ids id) ≡ id ∷ []
  listed = keys-with_ids (id ∷ []) refl

  counted : words_after 0 (ascending (with_id no_ids id)) ≡ cond (nat_lt 0 (id / 32)) 1 0
  counted = ap (words_after 0) listed

  is_held : has (with_id no_ids id) id ≡ true
  is_held = has_from_listed (with_id no_ids id) id (subst (λ ids. Contains ids id) (sym listed) (0, omega arith, refl))

  alone : (q : ℕ) → has (with_id no_ids id) q ≡ true → q ≡ id
  alone q held = only (subst (λ ids. Contains ids q) listed (listed_from_has (with_id no_ids id) q held))
    where
      only : Contains (id ∷ []) q → q ≡ id
      only there = let first : there.0 ≡ 0 = omega (arith, there.1) in sym there.2 ∙ ap (λ k. get_or (id ∷ []) k q) first

  by_count : (word count : ℕ) → count ≡ cond (nat_lt 0 word) 1 0 → ((word < 16 + 4 * count) → word < 20) × (word < 20 → word < 16 + 4 * count)
  by_count word count is = (λ dense. grind (arith, nat_tests), λ low. grind (arith, nat_tests))

pub returns-clause-alone : goal.returns-clause-alone
returns-clause-alone c id =
    let within = by_count id (id / 32) (words_after 0 (ascending (with_id no_ids id))) (counted id) in
    (λ dense. within.0 (dense.words id (is_held id)), λ low. record { words = λ q held. rw (alone id q held) (within.1 low) })
