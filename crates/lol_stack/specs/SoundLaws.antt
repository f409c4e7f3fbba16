-- That the calls of a stack keep its lists those of its open elements.
use Rattle.std.proofs.Common.{◌≡◌, ◌∙◌, sym, ap, refl, ℕ, zero, suc, ◌+◌, ◌-◌, ◌≤◌, true, false, List, [], ◌∷◌, ◌++◌, length, take, drop, map, Option, Some, None, slice_get, slice_set, arith}
use Rattle.std.specs.Bool.{if◌then◌else◌}
use Rattle.std.proofs.lemmas.List.{map-append, length-map, append-nil, take-append-drop}
use Rattle.lol_base.specs.LocalNames.{Name, same_local_name}
use Rattle.lol_base.specs.PlaceLaws.{head_is, tail_is}
use Rattle.lol_memory.specs.LimitedVec.{with_items}
use Rattle.lol_stack.specs.Active.{active_ranges_of, activated}
use Rattle.std.specs.Option.{option_map}
use Rattle.lol_stack.specs.TypedCounts.{counted_by_type}
use Rattle.lol_stack.specs.Stacks.{items_in, depths_in, typed_in, with_typed, counted_if, counted_item, without_depths, last_below}
use Rattle.lol_stack.specs.Lending.{with_data}
use Rattle.lol_stack.specs.StackLending.{with_data_if}
use Rattle.lol_stack.specs.SoundStacks.{hereditary_jumps_in, name_depths_from, IsSound, NewIsSound, CountingKeepsSound, OpeningKeepsSound, ClosingKeepsSound, SameIsSound, DataKeepSound, EndsAtLast}
use Rattle.lol_stack.specs.declared.stack_item.StackItemOf.{StackItemOf}
use Rattle.lol_stack.specs.declared.stack.StackOf.{StackOf}
use Rattle.lol_stack.specs.declared.stack.StackNames.{StackNames}
use Rattle.lol_stack.specs.SoundDepthLaws.{depths_from-append, without_depths-closed, last_below-depths}
use Rattle.lol_stack.specs.SoundRangeLaws.{active_after-append, before, before-active_after, kept-active_after}

length_front : {A : Type 0} (n : ℕ) (xs : List A) → n ≤ length xs → length (take n xs) ≡ n
length_front zero xs within = refl
length_front (suc n) [] within = absurd (omega arith)
length_front (suc n) (x ∷ xs) within = ap suc (length_front n xs (omega arith))

-- an element that f doesn't tell from the one before it
pub set_keeps : {A B : Type 0} (f : A → B) (xs : List A) (n : ℕ) (x y : A) → slice_get xs n ≡ Some x → f y ≡ f x → map f (slice_set xs n y) ≡ map f xs
set_keeps f [] n x y there same = refl
set_keeps f (z ∷ xs) zero x y there same = ap (λ first. first ∷ map f xs) (same ∙ ap f (let e : z ≡ x = cc in sym e))
set_keeps f (z ∷ xs) (suc n) x y there same = ap (λ rest. f z ∷ rest) (set_keeps f xs n x y there same)

module _ {E : Type 0} where
  pub new_is_sound : NewIsSound E
  new_is_sound s none no_range no_depth = record {
    active = no_range ∙ sym (ap (λ items. active_ranges_of (hereditary_jumps_in items)) none);
    depths = λ name. no_depth name ∙ sym (ap (λ items. name_depths_from 0 items name) none);
  }

  pub same_is_sound : SameIsSound E
  same_is_sound old new sound same =
      let items : items_in new ≡ items_in old = ap (λ v. v.items) same.items in
      record {
        active = same.active ∙ (sound.active ∙ sym (ap (λ is. active_ranges_of (hereditary_jumps_in is)) items));
        depths = λ name. same.depths name ∙ (sound.depths name ∙ sym (ap (λ is. name_depths_from 0 is name) items));
      }

  pub opening_keeps_sound : OpeningKeepsSound E
  opening_keeps_sound old new item sound opened =
      let items = items_in old in
      let now : items_in new ≡ items ++ item ∷ [] = ap (λ v. v.items) opened.items in
      let len : 0 + length (hereditary_jumps_in items) ≡ length items = omega (arith, length-map items (λ (i : StackItemOf Name E). i.hereditary_jumps)) in
      let ranges : active_ranges_of (hereditary_jumps_in (items ++ item ∷ [])) ≡ activated (active_ranges_of (hereditary_jumps_in items)) (length items) item.hereditary_jumps =
      ap active_ranges_of (map-append (λ (i : StackItemOf Name E). i.hereditary_jumps) items (item ∷ []))
      ∙ (active_after-append [] 0 (hereditary_jumps_in items) (item.hereditary_jumps ∷ [])
      ∙ ap (λ depth. activated (active_ranges_of (hereditary_jumps_in items)) depth item.hereditary_jumps) len)
      in
      record {
        active = opened.active ∙ (ap (λ a. activated a (length items) item.hereditary_jumps) sound.active ∙ (sym ranges ∙ sym (ap (λ is. active_ranges_of (hereditary_jumps_in is)) now)));
        depths = λ name.
            let depth : 0 + length items ≡ length items = omega arith in
            let split = depths_from-append 0 items (item ∷ []) name ∙ ap (λ p. name_depths_from 0 items name ++ name_depths_from p (item ∷ []) name) depth in
            opened.depths name
            ∙ (elim (same_local_name item.local_name name) as
            (λ own.
            (if own then depths_in old name ++ length items ∷ [] else depths_in old name)
            ≡ name_depths_from 0 items name ++ (if own then length items ∷ [] else [])) [
              | true ↦ ap (λ front. front ++ length items ∷ []) (sound.depths name)
              | false ↦ sound.depths name ∙ sym (append-nil (name_depths_from 0 items name))
            ]
            ∙ (sym split ∙ sym (ap (λ is. name_depths_from 0 is name) now)));
      }

  pub closing_keeps_sound : ClosingKeepsSound E
  closing_keeps_sound depth old new within sound closed =
      let items = items_in old in
      let now : items_in new ≡ take depth items = ap (λ v. v.items) closed.items in
      let front = hereditary_jumps_in (take depth items) in
      let back = hereditary_jumps_in (drop depth items) in
      let parts : hereditary_jumps_in items ≡ front ++ back =
      ap hereditary_jumps_in (sym (take-append-drop depth items)) ∙ map-append (λ (i : StackItemOf Name E). i.hereditary_jumps) (take depth items) (drop depth items)
      in
      let len : length front ≡ depth = length-map (take depth items) (λ (i : StackItemOf Name E). i.hereditary_jumps) ∙ length_front depth items within in
      let left : before depth (active_ranges_of (hereditary_jumps_in items)) ≡ active_ranges_of front =
      ap (λ ranges. before depth (active_ranges_of ranges)) parts
      ∙ (ap (before depth) (active_after-append [] 0 front back)
      ∙ (before-active_after depth (0 + length front) (active_ranges_of front) back (omega arith) ∙ kept-active_after depth 0 [] front (omega arith) refl))
      in
      record {
        active = closed.active ∙ (ap (before depth) sound.active ∙ (left ∙ sym (ap (λ is. active_ranges_of (hereditary_jumps_in is)) now)));
        depths = λ name.
            closed.depths name
            ∙ (ap (without_depths (drop depth items) name) (sound.depths name ∙ sym (ap (λ is. name_depths_from 0 is name) (take-append-drop depth items)))
            ∙ (without_depths-closed (take depth items) (drop depth items) name ∙ sym (ap (λ is. name_depths_from 0 is name) now)));
      }

  pub ends_at_last : EndsAtLast E
  ends_at_last s name sound = ap (last_below (length (items_in s))) (sound.depths name) ∙ last_below-depths (length (items_in s)) 0 (items_in s) name (omega arith)

  names_of : List (StackItemOf Name E) → List Name
  names_of items = map (λ item. item.local_name) items

  -- depths depend on the names alone
  depths_from-names : (depth : ℕ) (xs ys : List (StackItemOf Name E)) (name : Name) → names_of xs ≡ names_of ys → name_depths_from depth xs name ≡ name_depths_from depth ys name
  unfolding names_of
  depths_from-names depth [] [] name same = refl
  depths_from-names depth [] (y ∷ ys) name same = absurd (cc)
  depths_from-names depth (x ∷ xs) [] name same = absurd (cc)
  depths_from-names depth (x ∷ xs) (y ∷ ys) name same =
      let first = head_is x.local_name y.local_name (map (λ item. item.local_name) xs) (map (λ item. item.local_name) ys) same in
      let rest = depths_from-names (depth + 1) xs ys name (tail_is x.local_name y.local_name (map (λ item. item.local_name) xs) (map (λ item. item.local_name) ys) same) in
      ap (λ (n : Name). if same_local_name n name then depth ∷ name_depths_from (depth + 1) xs name else name_depths_from (depth + 1) xs name) first
      ∙ ap (λ more. if same_local_name y.local_name name then depth ∷ more else more) rest

  -- another last element, with the same name and ranges
  other_last : (s : StackOf Name StackNames E) (item other : StackItemOf Name E) → slice_get (items_in s) (length (items_in s) - 1) ≡ Some item
      → other.hereditary_jumps ≡ item.hereditary_jumps → other.local_name ≡ item.local_name → IsSound s
      → IsSound (record s { items = with_items s.items (slice_set (items_in s) (length (items_in s) - 1) other) })
  unfolding names_of
  other_last s item other there same_jumps same_name sound =
      let items = items_in s in
      let n = length items - 1 in
      record {
        active =
            sound.active
            ∙ sym (ap active_ranges_of (set_keeps (λ (i : StackItemOf Name E). i.hereditary_jumps) items n item other there same_jumps));
        depths = λ q.
            sound.depths q
            ∙ sym (depths_from-names 0 (slice_set items n other) items q
            (set_keeps (λ (i : StackItemOf Name E). i.local_name) items n item other there same_name));
      }

  pub counting_keeps_sound : CountingKeepsSound E
  counting_keeps_sound s name sound =
      let items = items_in s in
      let typed = with_typed s (option_map (λ ts. counted_by_type ts (length items) name) (typed_in s)) in
      let sound_typed : IsSound typed = record { active = sound.active; depths = sound.depths } in
      elim (slice_get items (length items - 1)) as
      (λ (found : Option (StackItemOf Name E)). slice_get items (length items - 1) ≡ found → IsSound (counted_if typed found)) [
        | None ↦ λ none. record { active = sound.active; depths = sound.depths }
        | Some item ↦ λ there. other_last typed item (counted_item item) there refl refl sound_typed
      ] refl

  pub data_keep_sound : DataKeepSound E
  data_keep_sound s w sound =
      let items = items_in s in
      let n = length items - 1 in
      elim (slice_get items n) as
      (λ (found : Option (StackItemOf Name E)). slice_get items n ≡ found → IsSound (record s { items = with_items s.items (with_data_if items n w found) })) [
        | None ↦ λ none. record { active = sound.active; depths = sound.depths }
        | Some item ↦ λ there. other_last s item (with_data item w) there refl refl sound
      ] refl
