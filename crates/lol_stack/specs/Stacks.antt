-- What a stack keeps of the open elements.
use Rattle.std.specs.Prelude.{ℕ, ◌≡◌, ◌+◌, ◌-◌, if◌then◌else◌, nat_lt, List, [], ◌∷◌, ◌++◌, length, map, filter, take, drop, slice_get, slice_set, Option, Some, None}
use Rattle.std.specs.Option.{option_map}
use Rattle.std.specs.declared.ops.Range.{Range}
use Rattle.lol_base.specs.LocalNames.{Name, same_local_name}
use Rattle.lol_memory.specs.LimitedVec.{LimitedVec, pushed, with_items}
use Rattle.lol_stack.specs.Active.{activated}
use Rattle.lol_stack.specs.Levels.{without_last}
use Rattle.lol_stack.specs.TypedCounts.{TypedCount, counted_by_type, cut_to, count_at}
use Rattle.lol_stack.specs.OpenDepths.{depths_of}
use Rattle.lol_stack.specs.declared.stack_item.StackItemOf.{StackItemOf}
use Rattle.lol_stack.specs.declared.stack.StackOf.{StackOf}
use Rattle.lol_stack.specs.declared.stack.StackNames.{StackNames}

-- 1. The parts of a stack

module _ {N E : Type 0} where
  abbrev pub count_or : ℕ → Option (StackItemOf N E) → ℕ
  count_or root None = root
  count_or root (Some item) = item.child_counter

  abbrev pub counted_item : StackItemOf N E → StackItemOf N E
  counted_item item = record item { child_counter = item.child_counter + 1 }

  -- the data of elements
  abbrev pub element_data_of : List (StackItemOf N E) → List E
  element_data_of items = map (λ item. item.element_data) items

module _ {N M E : Type 0} where
  -- the open elements, the outermost first
  abbrev pub items_in : StackOf N M E → List (StackItemOf N E)
  items_in s = s.items.items

  -- the open elements as a list with charged slots
  abbrev pub list_in : StackOf N M E → LimitedVec (StackItemOf N E)
  list_in s = s.items

  -- the slots that are charged, and the bytes that each is charged for
  abbrev pub slots_in : StackOf N M E → ℕ
  slots_in s = s.items.slots

  abbrev pub item_bytes_in : StackOf N M E → ℕ
  item_bytes_in s = s.items.item_bytes

  -- the children of the root
  abbrev pub root_count : StackOf N M E → ℕ
  root_count s = s.root_child_counter

  -- no more slots are charged, nor fewer
  abbrev pub KeepsSlots : StackOf N M E → StackOf N M E → Type 0
  KeepsSlots old new = (slots_in new ≡ slots_in old) × (item_bytes_in new ≡ item_bytes_in old)

  -- the active hereditary ranges, each with the depth of the first element that has it
  abbrev pub active_in : StackOf N M E → List (Range ℕ × ℕ)
  active_in s = s.active_hereditary_jumps

  -- the children of the last open element, or of the root
  abbrev pub last_count : StackOf N M E → ℕ
  last_count s = count_or s.root_child_counter (slice_get (items_in s) (length (items_in s) - 1))

  abbrev pub counted_if : StackOf N M E → Option (StackItemOf N E) → StackOf N M E
  counted_if s None = record s { root_child_counter = s.root_child_counter + 1 }
  counted_if s (Some item) = record s { items = with_items s.items (slice_set (items_in s) (length (items_in s) - 1) (counted_item item)) }

  -- the stack with one more child of the last open element, or of the root
  abbrev pub child_counted : StackOf N M E → StackOf N M E
  child_counted s = counted_if s (slice_get (items_in s) (length (items_in s) - 1))

module _ {E : Type 0} where
  -- the counters of children by type, if they are kept
  abbrev pub typed_in : StackOf Name StackNames E → Option (List TypedCount)
  typed_in s = s.names.typed_child_counters

  -- the depths of the open elements of a name
  abbrev pub depths_in : StackOf Name StackNames E → Name → List ℕ
  depths_in s name = depths_of s.names.open_names name

  -- the stack with other counters by type
  abbrev pub with_typed : StackOf Name StackNames E → Option (List TypedCount) → StackOf Name StackNames E
  with_typed s typed = record s { names = record s.names { typed_child_counters = typed } }

-- 2. Counters

abbrev pub count_by_type : Option (List TypedCount) → ℕ → Name → Option ℕ
count_by_type None level name = None
count_by_type (Some ts) level name = count_at ts level name

-- what is kept by names, with one more child of a name counted by type at a level if children are counted so
abbrev pub counted_if_kept : StackNames → ℕ → Name → StackNames
counted_if_kept names level name =
    record names { typed_child_counters = option_map (λ ts. counted_by_type ts level name) names.typed_child_counters }

-- the children of a name of the last open element, or of the root
abbrev pub typed_count : {E : Type 0} → StackOf Name StackNames E → Name → Option ℕ
typed_count s name = count_by_type (typed_in s) (length (items_in s)) name

-- A child of a name is counted: by the counter of the last open element, or of the root, and by type.
abbrev pub counted_in : {E : Type 0} → StackOf Name StackNames E → Name → StackOf Name StackNames E
counted_in s name = child_counted (with_typed s (option_map (λ ts. counted_by_type ts (length (items_in s)) name) (typed_in s)))

-- 3. Opening and closing

-- What stays the same.
pub record IsSame {E : Type 0} (old new : StackOf Name StackNames E) : Type 0 where
  pub root : root_count new ≡ root_count old
  pub items : list_in new ≡ list_in old
  pub active : active_in new ≡ active_in old
  pub typed : typed_in new ≡ typed_in old
  pub depths : (q : Name) → depths_in new q ≡ depths_in old q

-- An element is opened: it stands last, with its ranges and its name.
pub record IsPushed {E : Type 0} (old : StackOf Name StackNames E) (item : StackItemOf Name E) (new : StackOf Name StackNames E) : Type 0 where
  pub root : root_count new ≡ root_count old
  pub items : list_in new ≡ pushed (list_in old) item
  pub active : active_in new ≡ activated (active_in old) (length (items_in old)) item.hereditary_jumps
  pub typed : typed_in new ≡ typed_in old
  pub depths :
      (q : Name) → depths_in new q ≡ (if same_local_name item.local_name q then depths_in old q ++ length (items_in old) ∷ [] else depths_in old q)

-- the depths of a name without those of elements, the outermost first: each takes one off the end
abbrev pub without_depths : {E : Type 0} → List (StackItemOf Name E) → Name → List ℕ → List ℕ
without_depths [] q depths = depths
without_depths (item ∷ items) q depths = without_depths items q (if same_local_name item.local_name q then without_last depths else depths)

-- The elements from a depth on are closed: their ranges, counters by type and depths go.
pub record IsClosed {E : Type 0} (depth : ℕ) (old new : StackOf Name StackNames E) : Type 0 where
  pub root : root_count new ≡ root_count old
  pub items : list_in new ≡ with_items (list_in old) (take depth (items_in old))
  pub active : active_in new ≡ filter (λ a. nat_lt a.1 depth) (active_in old)
  pub typed : typed_in new ≡ option_map (cut_to depth) (typed_in old)
  pub depths : (q : Name) → depths_in new q ≡ without_depths (drop depth (items_in old)) q (depths_in old q)

-- the last of some depths, if it is one of so many elements
abbrev pub last_below : ℕ → List ℕ → Option ℕ
last_below n [] = None
last_below n (depth ∷ []) = if nat_lt depth n then Some depth else None
last_below n (depth ∷ next ∷ depths) = last_below n (next ∷ depths)

-- the depth of the last open element of a name
abbrev pub depth_to_close : {E : Type 0} → StackOf Name StackNames E → Name → Option ℕ
depth_to_close s name = last_below (length (items_in s)) (depths_in s name)

-- the elements from a depth on, none without a depth
abbrev pub closed_from : {E : Type 0} → Option ℕ → List (StackItemOf Name E) → List (StackItemOf Name E)
closed_from None items = []
closed_from (Some depth) items = drop depth items

abbrev pub IsEndedAt : {E : Type 0} → Option ℕ → StackOf Name StackNames E → StackOf Name StackNames E → Type 0
IsEndedAt None old new = IsSame old new
IsEndedAt (Some depth) old new = IsClosed depth old new

-- An end tag closes the last open element of its name and all inside it; where none is open, nothing changes.
abbrev pub IsEnded : {E : Type 0} → StackOf Name StackNames E → Name → StackOf Name StackNames E → Type 0
IsEnded old name new = IsEndedAt (depth_to_close old name) old new
