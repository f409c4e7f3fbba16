-- Runs over ranges, one after the other.
use Rattle.lol_machine.proofs.Common.{◌≡◌, ◌+◌, ◌-◌, ◌<◌, ◌≤◌, ℕ, List, ◌∷◌, length, take, drop, drop-cons, get_or, suc, refl, sym, ap, ◌∙◌, arith, subst, Range, length-take, length-drop, Ids, TagAttributes, Sight, names_counted, attributes_counted, Tries, ExecutionCtx, AreRunnable, HasTriesLeft, IsInsideOf, all_at, instructions_at, open_among, gathered_with_attributes, AreExecuted, AreWithin, IsStopIn, ranges_from, rest_of}
use Rattle.lol_instructions.specs.declared.instruction.Instruction.{Instruction}
use Rattle.lol_stack.specs.WithRange.{no_range}
use Rattle.lol_machine.specs.declared.tag_runs.Stop.{Stop}
use Rattle.lol_machine.specs.RunLaws.{offset_inside}
use Rattle.lol_machine.proofs.InstructionLists.{is_lent, length_parts, length_split, opens_split, attributes_next}

-- 1. The ranges from one of them on

pub first_left : (ranges : List (Range ℕ)) (k : ℕ) (r : Range ℕ) → k < length ranges → r ≡ get_or ranges k no_range → drop k ranges ≡ r ∷ drop (k + 1) ranges
first_left ranges k r within is =
    let next : suc k ≡ k + 1 = omega arith in
    drop-cons ranges k no_range within ∙ (λ i. sym is i ∷ drop (next i) ranges)

module _ (instructions : List Instruction) (ranges : List (Range ℕ)) (k : ℕ) (r : Range ℕ) (within : k < length ranges) (is : r ≡ get_or ranges k no_range) where
  abbrev first : drop k ranges ≡ r ∷ drop (k + 1) ranges
  first = first_left ranges k r within is

  module _ {now : Tries} (runs : AreRunnable instructions (drop k ranges) now) (part : List Instruction) (lent : IsInsideOf instructions r → HasTriesLeft now (r.end - r.start) → part ≡ instructions_at instructions r) where
    pub part_is : part ≡ instructions_at instructions r
    part_is = is_lent instructions first runs part lent

    pub length_next : length (all_at instructions (take (k + 1) ranges)) ≡ length (all_at instructions (take k ranges)) + length part
    length_next = omega (arith, length_parts instructions ranges k, length_parts instructions ranges (k + 1), length_split instructions first part part_is)

    -- at most so many are tried by names, up to this range and in it
    pub tried_within : (s : Sight) (old new : Tries) → names_counted now ≡ names_counted old + length (all_at instructions (take k ranges)) → attributes_counted now ≡ attributes_counted old
        → names_counted new ≤ names_counted now + length part → attributes_counted new ≡ attributes_counted now → AreWithin s instructions ranges old new 0
    tried_within s old new names attributes names_bound same =
        record { names = omega (arith, names, names_bound, length_split instructions first part part_is, length_parts instructions ranges k); attributes = omega (arith, attributes, same) }

-- 2. The rest of a range, and then the ranges after it

module _ (instructions : List Instruction) (ranges : List (Range ℕ)) (stop : Stop) (is_stop : IsStopIn instructions ranges stop) (tries : Tries) (runnable : AreRunnable instructions (ranges_from ranges stop) tries) (part : List Instruction) where
  abbrev stopped : Range ℕ
  stopped = get_or ranges stop.range no_range

  abbrev rest : Range ℕ
  rest = rest_of ranges stop

  -- the instructions of the rest are what is lent
  pub rest_lent : (r left : Range ℕ) → r ≡ stopped → (r.start + stop.offset ≤ r.end → left ≡ record { start = r.start + stop.offset; end = r.end })
      → (IsInsideOf instructions left → HasTriesLeft tries (left.end - left.start) → part ≡ instructions_at instructions left) → part ≡ instructions_at instructions rest
  rest_lent r left at is value =
      let left_is : left ≡ rest = subst (λ q. q.start + stop.offset ≤ q.end → left ≡ record { start = q.start + stop.offset; end = q.end }) at is (offset_inside instructions ranges stop is_stop) in
      is_lent instructions {r = rest} {others = drop (stop.range + 1) ranges} refl runnable part (subst (λ q. IsInsideOf instructions q → HasTriesLeft tries (q.end - q.start) → part ≡ instructions_at instructions q) left_is value)

  -- there are some
  pub rest_some : part ≡ instructions_at instructions rest → 0 < length part
  rest_some is =
      let inside = runnable.inside 0 no_range (omega arith) in
      omega (
        arith,
        ap length is,
        inside,
        length-take (rest.end - rest.start) (drop rest.start instructions),
        length-drop rest.start instructions,
        is_stop.1,
        length-take (stopped.end - stopped.start) (drop stopped.start instructions),
        length-drop stopped.start instructions,
      )

module _ {E : Type 0} (ids : E → Ids) (with_ids : E → Ids → E) (s t : Sight) (same : t ≡ s) (instructions : List Instruction) (r : Range ℕ) (others : List (Range ℕ)) (part : List Instruction) (is : part ≡ instructions_at instructions r) (before mid after : Tries) where
  pub executed_from : (a : TagAttributes) (old between new : ExecutionCtx E) → 0 < length part
      → between ≡ gathered_with_attributes ids with_ids s a old part → names_counted mid ≡ names_counted before + (length part - 1) → attributes_counted mid ≡ attributes_counted before + open_among s part
      → AreExecuted ids with_ids t instructions others between new mid after a 0 → AreExecuted ids with_ids s instructions (r ∷ others) old new before after a 1
  executed_from a old between new some gathered names attributes later =
      let rest = subst (λ z. AreExecuted ids with_ids z instructions others between new mid after a 0) same later in
      record {
        gathered = rest.gathered ∙ sym (attributes_next instructions {r = r} {others = others} refl part is s s refl ids with_ids old between a gathered);
        names = omega (arith, rest.names, names, some, length_split instructions {r = r} {others = others} refl part is);
        attributes = omega (arith, rest.attributes, attributes, opens_split instructions {r = r} {others = others} refl part is s s refl);
      }

  pub within_from : 0 < length part → names_counted mid ≤ names_counted before + (length part - 1) → attributes_counted mid ≤ attributes_counted before + open_among s part
      → AreWithin t instructions others mid after 0 → AreWithin s instructions (r ∷ others) before after 1
  within_from some names attributes later =
      let rest = subst (λ z. AreWithin z instructions others mid after 0) same later in
      record {
        names = omega (arith, rest.names, names, some, length_split instructions {r = r} {others = others} refl part is);
        attributes = omega (arith, rest.attributes, attributes, opens_split instructions {r = r} {others = others} refl part is s s refl);
      }
