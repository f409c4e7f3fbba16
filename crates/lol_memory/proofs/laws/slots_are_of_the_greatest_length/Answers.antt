use Rattle.std.proofs.Common.{◌≡◌, ◌∙◌, ap, ℕ, ◌+◌, ◌≤◌, List, [], ◌∷◌, ◌++◌, length, take, drop, arith, length-append, length-drop}
use Rattle.std.specs.Prelude.{max}
use Rattle.std.specs.List.{remove_range}
use Rattle.std.proofs.lemmas.List.{length-take}
use Rattle.lol_memory.specs.LimitedVec.{LimitedVec, pushed, with_items}
use Rattle.lol_memory.specs.Slots.{slots, slots_after}
use Rattle.lol_memory.specs.SlotLaws.{slots_grow, slots_pushed}
use Rattle.lol_memory.specs.Steps.{Step, Pushed, Drained, empty_list, after_steps, greatest_length}
use Rattle.lol_memory.proofs.laws.slots_are_of_the_greatest_length.Goals as goal

module _ {T : Type 0} where
  not_longer : (xs : List T) (start count : ℕ) → length (remove_range xs start (start + count)) ≤ length xs
  not_longer xs start count =
      omega (arith, length-append (take start xs) (drop (start + count) xs), length-take start xs, length-drop (start + count) xs)

  at_least_now : (v : LimitedVec T) (steps : List (Step T)) → length v.items ≤ greatest_length v steps
  at_least_now v [] = omega arith
  at_least_now v (step ∷ steps) = omega arith

  -- from a list whose slots are those of a greatest length before
  slots_from : (most : ℕ) (v : LimitedVec T) (steps : List (Step T)) → length v.items ≤ most → v.slots ≡ slots v.item_bytes most
      → (after_steps v steps).slots ≡ slots v.item_bytes (max most (greatest_length v steps))
  slots_from most v [] within charged =
      let same : most ≡ max most (length v.items) = omega arith in
      charged ∙ ap (slots v.item_bytes) same
  slots_from most v (Pushed x ∷ steps) within charged =
      let longer : length (v.items ++ x ∷ []) ≡ length v.items + 1 = omega (arith, length-append v.items (x ∷ [])) in
      let now : (pushed v x).slots ≡ slots v.item_bytes (max most (length v.items + 1)) =
      slots_pushed v x ∙ (ap (λ n. slots_after v.item_bytes n (length v.items)) charged ∙ slots_grow v.item_bytes (length v.items) most within)
      in
      let rest = slots_from (max most (length v.items + 1)) (pushed v x) steps (omega (arith, longer)) now in
      let more = at_least_now (pushed v x) steps in
      let g = greatest_length (pushed v x) steps in
      let same : max (max most (length v.items + 1)) g ≡ max most (max (length v.items) g) = omega (arith, longer, more) in
      rest ∙ ap (slots v.item_bytes) same
  slots_from most v (Drained start count ∷ steps) within charged =
      let left = with_items v (remove_range v.items start (start + count)) in
      let fewer = not_longer v.items start count in
      let rest = slots_from most left steps (omega (arith, fewer)) charged in
      let g = greatest_length left steps in
      let same : max most g ≡ max most (max (length v.items) g) = omega arith in
      rest ∙ ap (slots v.item_bytes) same

pub returns : goal.returns
returns g c item_bytes steps =
    let same : max 0 (greatest_length (empty_list item_bytes) steps) ≡ greatest_length (empty_list item_bytes) steps = omega arith in
    slots_from 0 (empty_list item_bytes) steps (omega arith) (λ i. 0) ∙ ap (slots item_bytes) same
