-- Stacks whose counters by type stand at the levels of their open elements.
use Rattle.std.proofs.Common.{◌≡◌, ◌∙◌, sym, ap, refl, subst, ℕ, ◌+◌, ◌-◌, ◌≤◌, Bool, true, false, List, [], ◌∷◌, ◌++◌, length, Option, Some, None, slice_get, arith, length-append}
use Rattle.std.specs.Prelude.{IfSome}
use Rattle.std.specs.Bool.{if◌then◌else◌}
use Rattle.std.specs.Option.{option_map}
use Rattle.std.proofs.lemmas.List.{length-set, length-take-le}
use Rattle.lol_base.specs.LocalNames.{Name}
use Rattle.lol_stack.specs.TypedCounts.{TypedCount, counted_by_type, cut_to}
use Rattle.lol_stack.specs.TypedLaws.{StandUpTo}
use Rattle.lol_stack.specs.ClimbLaws.{stand_lower, none_stand, counting_stands, cutting_stands}
use Rattle.lol_stack.specs.Lending.{with_data}
use Rattle.lol_stack.specs.StackLending.{with_data_if, with_current}
use Rattle.lol_stack.specs.Stacks.{items_in, typed_in, with_typed, counted_in, counted_if, counted_item}
use Rattle.lol_stack.specs.LevelledStacks.{HasLevels, NewHasLevels, CountingKeepsLevels, OpeningKeepsLevels, ClosingKeepsLevels, SameHasLevels, DataKeepLevels}
use Rattle.lol_stack.specs.declared.stack_item.StackItemOf.{StackItemOf}
use Rattle.lol_stack.specs.declared.stack.StackOf.{StackOf}
use Rattle.lol_stack.specs.declared.stack.StackNames.{StackNames}

-- 1. Counters that a stack may have

abbrev Stand : ℕ → Option (List TypedCount) → Type 0
Stand level typed = IfSome typed (StandUpTo level)

stand_if-lower : (a b : ℕ) (typed : Option (List TypedCount)) → a ≤ b → Stand a typed → Stand b typed
stand_if-lower a b None within stand = tt
stand_if-lower a b (Some ts) within stand = stand_lower a b ts within stand

stand_if-new : (level : ℕ) (by_type : Bool) → Stand level (if by_type then Some [] else None)
stand_if-new level true = none_stand level
stand_if-new level false = tt

stand_if-counted : (level : ℕ) (typed : Option (List TypedCount)) (name : Name) → Stand level typed → Stand level (option_map (λ ts. counted_by_type ts level name) typed)
stand_if-counted level None name stand = tt
stand_if-counted level (Some ts) name stand = counting_stands ts level level name stand (omega arith)

stand_if-cut : (top level : ℕ) (typed : Option (List TypedCount)) → Stand top typed → Stand level (option_map (cut_to level) typed)
stand_if-cut top level None stand = tt
stand_if-cut top level (Some ts) stand = cutting_stands ts top level stand

-- 2. Stacks

module _ {E : Type 0} where
  -- a stack with such a number of elements and such counters
  has_levels : (s : StackOf Name StackNames E) (level : ℕ) (typed : Option (List TypedCount)) → length (items_in s) ≡ level → typed_in s ≡ typed
      → Stand level typed → HasLevels s
  has_levels s level typed many is stand =
      subst (λ n. Stand n (typed_in s)) (sym many) (subst (Stand level) (sym is) stand)

  pub new_has_levels : NewHasLevels E
  new_has_levels s by_type is = has_levels s (length (items_in s)) (if by_type then Some [] else None) refl is (stand_if-new (length (items_in s)) by_type)

  pub same_has_levels : SameHasLevels E
  same_has_levels old new levels same =
      has_levels new (length (items_in old)) (typed_in old) (ap (λ v. length v.items) same.items) same.typed levels

  pub opening_keeps_levels : OpeningKeepsLevels E
  opening_keeps_levels old new item levels opened =
      let now : items_in new ≡ items_in old ++ item ∷ [] = ap (λ v. v.items) opened.items in
      let many : length (items_in new) ≡ length (items_in old) + 1 = omega (arith, ap length now, length-append (items_in old) (item ∷ [])) in
      has_levels new (length (items_in old) + 1) (typed_in old) many opened.typed
      (stand_if-lower (length (items_in old)) (length (items_in old) + 1) (typed_in old) (omega arith) levels)

  pub closing_keeps_levels : ClosingKeepsLevels E
  closing_keeps_levels depth old new within levels closed =
      has_levels new depth (option_map (cut_to depth) (typed_in old))
      (ap (λ v. length v.items) closed.items ∙ length-take-le depth (items_in old) within) closed.typed
      (stand_if-cut (length (items_in old)) depth (typed_in old) levels)

  -- a child that is counted leaves as many elements, and the counters by type
  length-counted : (s : StackOf Name StackNames E) (found : Option (StackItemOf Name E)) → length (items_in (counted_if s found)) ≡ length (items_in s)
  length-counted s None = refl
  length-counted s (Some item) = length-set (items_in s) (length (items_in s) - 1) (counted_item item)

  typed-counted : (s : StackOf Name StackNames E) (found : Option (StackItemOf Name E)) → typed_in (counted_if s found) ≡ typed_in s
  typed-counted s None = refl
  typed-counted s (Some item) = refl

  pub counting_keeps_levels : CountingKeepsLevels E
  counting_keeps_levels s name levels =
      let level = length (items_in s) in
      let typed = option_map (λ ts. counted_by_type ts level name) (typed_in s) in
      let last = slice_get (items_in s) (level - 1) in
      has_levels (counted_in s name) level typed (length-counted (with_typed s typed) last) (typed-counted (with_typed s typed) last)
      (stand_if-counted level (typed_in s) name levels)

  -- other data of an element leave as many elements
  length-with_data : (items : List (StackItemOf Name E)) (depth : ℕ) (w : E) (found : Option (StackItemOf Name E)) → length (with_data_if items depth w found) ≡ length items
  length-with_data items depth w None = refl
  length-with_data items depth w (Some item) = length-set items depth (with_data item w)

  pub data_keep_levels : DataKeepLevels E
  data_keep_levels s w levels =
      let last = length (items_in s) - 1 in
      has_levels (with_current s w) (length (items_in s)) (typed_in s) (length-with_data (items_in s) last w (slice_get (items_in s) last)) refl levels
