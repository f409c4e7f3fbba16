-- Instructions that are run in parts.
use Rattle.lol_machine.proofs.Common.{◌≡◌, ◌+◌, ◌-◌, ◌≤◌, ℕ, List, [], ◌∷◌, ◌++◌, length, take, drop, suc, Option, Some, None, cond, refl, sym, ap, ◌∙◌, arith, subst, Range, take-append-drop, length-drop, length-take, names_counted, attributes_counted, Tries, Ids, TagAttributes, Sight, is_open, value_seen, holds_seen, open_among, first_open_from, gathered_by_names, gathered_with_attributes, instructions_at, all_at, AreRunnable, IsInsideOf, HasTriesLeft, ExecutionCtx, give_branch, option_map, option_or}
use Rattle.std.proofs.lemmas.List.{length-append}
use Rattle.std.proofs.lemmas.Grind.{flat_map-append}
use Rattle.std.proofs.lemmas.List.Sums.{sum_by-append, count_by-le-length}
use Rattle.lol_instructions.specs.Running.{tries_of_attributes}
use Rattle.lol_instructions.specs.declared.name_value.NameValue.{NameValue}
use Rattle.lol_instructions.specs.declared.name_value.NameValue.TheVariants.{True, False, Open}
use Rattle.lol_instructions.specs.declared.instruction.Instruction.{Instruction}
use Rattle.lol_stack.specs.WithRange.{no_range}
use Rattle.lol_machine.specs.OutcomeLaws.{attributes-append, from_first, names-on, names-until, position_from-append}

-- 1. Range by range

pub open_among-append : (s : Sight) (front back : List Instruction) → open_among s (front ++ back) ≡ open_among s front + open_among s back
open_among-append s front back = sum_by-append (λ i. cond (is_open (value_seen s i)) 1 0) front back

tries_open : (v : NameValue) → tries_of_attributes v ≡ cond (is_open v) 1 0
tries_open True = refl
tries_open False = refl
tries_open Open = refl

-- the first is counted where its attributes are tried
open_first : (s : Sight) (i : Instruction) (instructions : List Instruction) → open_among s (i ∷ instructions) ≡ tries_of_attributes (value_seen s i) + open_among s instructions
open_first s i instructions = omega (arith, open_among-append s (i ∷ []) instructions, tries_open (value_seen s i))

pub open_split : (s : Sight) (all : List Instruction) (i : Instruction) (others : List Instruction) → all ≡ i ∷ others → open_among s all ≡ tries_of_attributes (value_seen s i) + open_among s others
open_split s all i others is = ap (open_among s) is ∙ open_first s i others

pub open_at_most : (s : Sight) (instructions : List Instruction) → open_among s instructions ≤ length instructions
open_at_most s instructions = count_by-le-length (λ i. is_open (value_seen s i)) instructions

-- what comes before some of the ranges, and from them on
pub length_parts : (instructions : List Instruction) (ranges : List (Range ℕ)) (n : ℕ) → length (all_at instructions (take n ranges)) + length (all_at instructions (drop n ranges)) ≡ length (all_at instructions ranges)
length_parts instructions ranges n =
    sym (ap (λ rs. length (all_at instructions rs)) (sym (take-append-drop n ranges))
    ∙ (ap length (flat_map-append (instructions_at instructions) (take n ranges) (drop n ranges)) ∙ length-append (all_at instructions (take n ranges)) (all_at instructions (drop n ranges))))

-- 2. The first of some ranges

module _ (instructions : List Instruction) {rs : List (Range ℕ)} {r : Range ℕ} {others : List (Range ℕ)} (first : rs ≡ r ∷ others) where
  abbrev here : List Instruction
  here = instructions_at instructions r

  abbrev later : List Instruction
  later = all_at instructions others

  abbrev whole : List Instruction
  whole = all_at instructions rs

  module _ {tries : Tries} (runnable : AreRunnable instructions rs tries) (part : List Instruction) where
    run : AreRunnable instructions (r ∷ others) tries
    run = subst (λ xs. AreRunnable instructions xs tries) first runnable

    is_inside : IsInsideOf instructions r
    is_inside = run.inside 0 no_range (omega arith)

    length_here : length here ≡ r.end - r.start
    length_here = omega (arith, is_inside, length-take (r.end - r.start) (drop r.start instructions), length-drop r.start instructions)

    -- its instructions are what is lent
    pub is_lent : (IsInsideOf instructions r → HasTriesLeft tries (r.end - r.start) → part ≡ here) → part ≡ here
    is_lent lent =
        let count = length-append here later in
        lent is_inside (omega (arith, run.room.0, count, length_here), omega (arith, run.room.1, count, length_here))

    -- the others can be run after it
    pub others_run : part ≡ here → (mid : Tries) → names_counted mid ≤ names_counted tries + length part → attributes_counted mid ≤ attributes_counted tries + length part → AreRunnable instructions others mid
    others_run is mid names attributes =
        let count = length-append here later in
        record {
          inside = λ k d within. run.inside (suc k) d (omega (arith, within));
          room = (omega (arith, run.room.0, count, ap length is, names), omega (arith, run.room.1, count, ap length is, attributes));
        }

  module _ (part : List Instruction) (is : part ≡ here) where
    split : whole ≡ part ++ later
    split = ap (all_at instructions) first ∙ ap (λ p. p ++ later) (sym is)

    pub length_split : length whole ≡ length part + length later
    length_split = ap length split ∙ length-append part later

    module _ (t s : Sight) (same : t ≡ s) where
      pub opens_split : open_among s whole ≡ open_among t part + open_among s later
      opens_split = ap (open_among s) split ∙ (open_among-append s part later ∙ ap (λ z. open_among z part + open_among s later) (sym same))

      here_too : (o : Option ℕ) → first_open_from t 0 part ≡ o → first_open_from s 0 part ≡ o
      here_too o is_first = ap (λ z. first_open_from z 0 part) (sym same) ∙ is_first

      -- the first open one
      decided : (n : ℕ) (o : Option ℕ) → first_open_from t 0 part ≡ o → first_open_from s n whole ≡ option_or (option_map (λ k. n + k) o) (first_open_from s (n + length part) later)
      decided n o is_first =
          ap (first_open_from s n) split
          ∙ (position_from-append (λ i. is_open (value_seen s i)) n part later
          ∙ ap (λ x. option_or x (first_open_from s (n + length part) later)) (from_first (λ i. is_open (value_seen s i)) n part ∙ ap (option_map (λ k. n + k)) (here_too o is_first)))

      pub stop_next : (n : ℕ) → first_open_from t 0 part ≡ None → first_open_from s n whole ≡ first_open_from s (n + length part) later
      stop_next n none = decided n None none

      pub stop_here : (n k : ℕ) → first_open_from t 0 part ≡ Some k → first_open_from s n whole ≡ Some (n + k)
      stop_here n k some = decided n (Some k) some

      module _ {E : Type 0} (ids : E → Ids) (with_ids : E → Ids → E) (ctx new : ExecutionCtx E) where
        pub names_next : first_open_from t 0 part ≡ None → new ≡ gathered_by_names ids with_ids t ctx part → gathered_by_names ids with_ids s ctx whole ≡ gathered_by_names ids with_ids s new later
        names_next none is_new =
            ap (gathered_by_names ids with_ids s ctx) split
            ∙ (names-on (give_branch ids with_ids) (value_seen s) 0 ctx part later (here_too None none)
            ∙ ap (λ c. gathered_by_names ids with_ids s c later) (ap (λ z. gathered_by_names ids with_ids z ctx part) (sym same) ∙ sym is_new))

        pub names_here : (k : ℕ) → first_open_from t 0 part ≡ Some k → new ≡ gathered_by_names ids with_ids t ctx part → new ≡ gathered_by_names ids with_ids s ctx whole
        names_here k some is_new =
            is_new
            ∙ (ap (λ z. gathered_by_names ids with_ids z ctx part) same
            ∙ sym (ap (gathered_by_names ids with_ids s ctx) split ∙ names-until (give_branch ids with_ids) (value_seen s) 0 k ctx part later (here_too (Some k) some)))

        pub attributes_next : (a : TagAttributes) → new ≡ gathered_with_attributes ids with_ids t a ctx part → gathered_with_attributes ids with_ids s a ctx whole ≡ gathered_with_attributes ids with_ids s a new later
        attributes_next a is_new =
            ap (gathered_with_attributes ids with_ids s a ctx) split
            ∙ (attributes-append (give_branch ids with_ids) (holds_seen s a) ctx part later
            ∙ ap (λ c. gathered_with_attributes ids with_ids s a c later) (ap (λ z. gathered_with_attributes ids with_ids z a ctx part) (sym same) ∙ sym is_new))
