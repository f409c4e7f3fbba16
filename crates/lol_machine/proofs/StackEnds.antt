-- Which elements of a stack an end tag closes.
use Rattle.lol_machine.proofs.Common.{◌≡◌, ℕ, suc, ◌+◌, ◌-◌, ◌<◌, Bool, true, false, List, [], ◌∷◌, ◌++◌, length, map, drop, take, reverse, position, Option, Some, None, refl, sym, ap, ◌∙◌, arith, if◌then◌else◌, position_from, option_map, option_or, reverse-append, take-append-drop, length-drop, length-map, length-reverse, drop_at, lowercased, Name, local_name, OpenItem, items_in, depth_to_close, item_shown, items_shown, StackItemOf, StackOf, StackNames}
use Rattle.std.specs.List.{take-map}
use Rattle.std.specs.Str.{bytes_eq}
use Rattle.std.proofs.lemmas.Iterator.Adapters.{position_from-zero}
use Rattle.std.proofs.lemmas.List.Quantifiers.{position-Some}
use Rattle.lol_stack.specs.SoundStacks.{last_depth_from, IsSound}
use Rattle.lol_stack.specs.SoundLaws.{ends_at_last}
use Rattle.lol_machine.specs.OutcomeLaws.{position_from-append}
use Rattle.lol_machine.proofs.StackCounting.{shown_length}

-- 1. Lists, the last element first

cut_reverse : {A : Type 0} (n : ℕ) (xs : List A) → reverse xs ≡ reverse (drop n xs) ++ reverse (take n xs)
cut_reverse n xs = ap reverse (sym (take-append-drop n xs)) ∙ reverse-append (take n xs) (drop n xs)

pub shown_cut : {A B : Type 0} (f : A → B) (xs : List A) (n depth : ℕ) → n + depth ≡ length xs → drop n (reverse (map f xs)) ≡ reverse (map f (take depth xs))
shown_cut f xs n depth sizes =
    let back = length-reverse (drop depth (map f xs)) ∙ length-drop depth (map f xs) in
    ap (drop n) (cut_reverse depth (map f xs)) ∙ (drop_at (reverse (drop depth (map f xs))) (reverse (take depth (map f xs))) n (omega (arith, back, length-map xs f, sizes)) ∙ ap reverse (take-map f depth xs))

pub found_within : (p : OpenItem → Bool) (xs : List OpenItem) (k : ℕ) → position p xs ≡ Some k → k < length xs
found_within p xs k is = (position-Some p xs k (record { name = []; jumps = []; hereditary_jumps = [] }) is).0

-- 2. The last element of a name

abbrev from_last : ℕ → ℕ → ℕ → ℕ
from_last depth count k = depth + (count - (k + 1))

same_option : (f g : ℕ → ℕ) → ((k : ℕ) → f k ≡ g k) → (o : Option ℕ) → option_map f o ≡ option_map g o
same_option f g same None = refl
same_option f g same (Some k) = ap Some (same k)

module _ (name : List ℕ) where
  abbrev pub is_named : OpenItem → Bool
  is_named item = bytes_eq item.name (lowercased name)

  last_is : {E : Type 0} (depth : ℕ) (xs : List (StackItemOf Name E)) → option_map (from_last depth (length xs)) (position_from is_named 0 (items_shown xs)) ≡ last_depth_from depth xs (local_name name)
  last_is depth [] = refl
  last_is depth (x ∷ xs) =
      let turned : items_shown (x ∷ xs) ≡ items_shown xs ++ item_shown x ∷ [] = reverse-append (item_shown x ∷ []) (map item_shown xs) in
      let count = shown_length item_shown xs in
      ap (λ ys. option_map (from_last depth (suc (length xs))) (position_from is_named 0 ys)) turned
      ∙ (ap (option_map (from_last depth (suc (length xs)))) (position_from-append is_named 0 (items_shown xs) (item_shown x ∷ []))
      ∙ by_depth (position_from is_named 0 (items_shown xs)) (λ k h. omega (arith, found_within is_named (items_shown xs) k (position_from-zero is_named (items_shown xs) ∙ h), count)) (last_is (depth + 1) xs) (is_named (item_shown x)) count)
    where
      by_depth : (o : Option ℕ) → ((k : ℕ) → o ≡ Some k → k < length xs) → option_map (from_last (depth + 1) (length xs)) o ≡ last_depth_from (depth + 1) xs (local_name name)
          → (b : Bool) → length (items_shown xs) ≡ length xs
          → option_map (from_last depth (suc (length xs))) (option_or o (if b then Some (0 + length (items_shown xs)) else None)) ≡ option_or (last_depth_from (depth + 1) xs (local_name name)) (if b then Some depth else None)
      by_depth (Some k) within later b count =
          let below = within k refl in
          let same : depth + (suc (length xs) - (k + 1)) ≡ (depth + 1) + (length xs - (k + 1)) = omega (arith, below) in
          ap Some same ∙ ap (λ o. option_or o (if b then Some depth else None)) later
      by_depth None within later true count =
          let same : depth + (suc (length xs) - ((0 + length (items_shown xs)) + 1)) ≡ depth = omega (arith, count) in
          ap Some same ∙ ap (λ o. option_or o (Some depth)) later
      by_depth None within later false count = ap (λ o. option_or o None) later

  -- an end tag closes the innermost element of its name and all inside it
  pub closes_innermost : {E : Type 0} (s : StackOf Name StackNames E) → IsSound s
      → depth_to_close s (local_name name) ≡ option_map (λ k. length (items_in s) - (k + 1)) (position is_named (items_shown (items_in s)))
  closes_innermost s sound =
      ends_at_last s (local_name name) sound
      ∙ sym (same_option (λ k. length (items_in s) - (k + 1)) (from_last 0 (length (items_in s))) (λ k. omega arith) (position is_named (items_shown (items_in s)))
      ∙ (ap (option_map (from_last 0 (length (items_in s)))) (position_from-zero is_named (items_shown (items_in s))) ∙ last_is 0 (items_in s)))
