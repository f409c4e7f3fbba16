-- When the lists that a stack keeps are those of its open elements.
use Rattle.std.specs.Prelude.{ℕ, ◌≡◌, ◌+◌, ◌≤◌, if◌then◌else◌, List, [], ◌∷◌, length, map, Option, Some, None}
use Rattle.std.specs.Option.{option_or}
use Rattle.std.specs.declared.ops.Range.{Range}
use Rattle.lol_base.specs.LocalNames.{Name, same_local_name}
use Rattle.lol_stack.specs.Active.{active_ranges_of}
use Rattle.lol_stack.specs.StackLending.{with_current}
use Rattle.lol_stack.specs.Stacks.{items_in, active_in, depths_in, counted_in, depth_to_close, IsSame, IsPushed, IsClosed}
use Rattle.lol_stack.specs.declared.stack_item.StackItemOf.{StackItemOf}
use Rattle.lol_stack.specs.declared.stack.StackOf.{StackOf}
use Rattle.lol_stack.specs.declared.stack.StackNames.{StackNames}

module _ {E : Type 0} where
  -- the hereditary ranges of elements
  abbrev pub hereditary_jumps_in : List (StackItemOf Name E) → List (List (Range ℕ))
  hereditary_jumps_in items = map (λ item. item.hereditary_jumps) items

  -- the depths of the elements of a name, where the first element stands at this depth
  abbrev pub name_depths_from : ℕ → List (StackItemOf Name E) → Name → List ℕ
  name_depths_from depth [] name = []
  name_depths_from depth (item ∷ items) name =
      if same_local_name item.local_name name then depth ∷ name_depths_from (depth + 1) items name else name_depths_from (depth + 1) items name

  -- the last of these depths
  abbrev pub last_depth_from : ℕ → List (StackItemOf Name E) → Name → Option ℕ
  last_depth_from depth [] name = None
  last_depth_from depth (item ∷ items) name =
      option_or (last_depth_from (depth + 1) items name) (if same_local_name item.local_name name then Some depth else None)

  -- The depth of the last open element of a name.
  abbrev pub last_depth : List (StackItemOf Name E) → Name → Option ℕ
  last_depth items name = last_depth_from 0 items name

  -- The active ranges are those of the open elements, and the depths of each name are theirs.
  pub record IsSound (s : StackOf Name StackNames E) : Type 0 where
    pub active : active_in s ≡ active_ranges_of (hereditary_jumps_in (items_in s))
    pub depths : (name : Name) → depths_in s name ≡ name_depths_from 0 (items_in s) name

-- What is so of a new stack, and what each call keeps.

abbrev pub NewIsSound : Type 0 → Type 0
NewIsSound E = (s : StackOf Name StackNames E) → items_in s ≡ [] → active_in s ≡ [] → ((name : Name) → depths_in s name ≡ []) → IsSound s

abbrev pub CountingKeepsSound : Type 0 → Type 0
CountingKeepsSound E = (s : StackOf Name StackNames E) (name : Name) → IsSound s → IsSound (counted_in s name)

abbrev pub OpeningKeepsSound : Type 0 → Type 0
OpeningKeepsSound E = (old new : StackOf Name StackNames E) (item : StackItemOf Name E) → IsSound old → IsPushed old item new → IsSound new

abbrev pub ClosingKeepsSound : Type 0 → Type 0
ClosingKeepsSound E = (depth : ℕ) (old new : StackOf Name StackNames E) → depth ≤ length (items_in old) → IsSound old → IsClosed depth old new → IsSound new

abbrev pub SameIsSound : Type 0 → Type 0
SameIsSound E = (old new : StackOf Name StackNames E) → IsSound old → IsSame old new → IsSound new

-- Other data of the last element.
abbrev pub DataKeepSound : Type 0 → Type 0
DataKeepSound E = (s : StackOf Name StackNames E) (w : E) → IsSound s → IsSound (with_current s w)

-- An end tag closes the last open element of its name.
abbrev pub EndsAtLast : Type 0 → Type 0
EndsAtLast E = (s : StackOf Name StackNames E) (name : Name) → IsSound s → depth_to_close s name ≡ last_depth (items_in s) name
