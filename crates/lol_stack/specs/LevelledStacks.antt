-- When the counters by type of a stack stand at the levels of its open elements.
use Rattle.std.specs.Prelude.{ℕ, ◌≡◌, ◌≤◌, Bool, if◌then◌else◌, [], length, Some, None, IfSome}
use Rattle.lol_base.specs.LocalNames.{Name}
use Rattle.lol_stack.specs.StackLending.{with_current}
use Rattle.lol_stack.specs.Stacks.{items_in, typed_in, counted_in, IsSame, IsPushed, IsClosed}
use Rattle.lol_stack.specs.TypedLaws.{StandUpTo}
use Rattle.lol_stack.specs.declared.stack_item.StackItemOf.{StackItemOf}
use Rattle.lol_stack.specs.declared.stack.StackOf.{StackOf}
use Rattle.lol_stack.specs.declared.stack.StackNames.{StackNames}

-- The counters by type stand up to the number of open elements.
abbrev pub HasLevels : {E : Type 0} → StackOf Name StackNames E → Type 0
HasLevels s = IfSome (typed_in s) (StandUpTo (length (items_in s)))

-- What is so of a new stack, and what each call keeps.

abbrev pub NewHasLevels : Type 0 → Type 0
NewHasLevels E =
    (s : StackOf Name StackNames E) (by_type : Bool) → typed_in s ≡ (if by_type then Some [] else None) → HasLevels s

abbrev pub CountingKeepsLevels : Type 0 → Type 0
CountingKeepsLevels E = (s : StackOf Name StackNames E) (name : Name) → HasLevels s → HasLevels (counted_in s name)

abbrev pub OpeningKeepsLevels : Type 0 → Type 0
OpeningKeepsLevels E =
    (old new : StackOf Name StackNames E) (item : StackItemOf Name E)
    → HasLevels old → IsPushed old item new → HasLevels new

abbrev pub ClosingKeepsLevels : Type 0 → Type 0
ClosingKeepsLevels E =
    (depth : ℕ) (old new : StackOf Name StackNames E) → depth ≤ length (items_in old)
    → HasLevels old → IsClosed depth old new → HasLevels new

abbrev pub SameHasLevels : Type 0 → Type 0
SameHasLevels E = (old new : StackOf Name StackNames E) → HasLevels old → IsSame old new → HasLevels new

-- Other data of the last element.
abbrev pub DataKeepLevels : Type 0 → Type 0
DataKeepLevels E = (s : StackOf Name StackNames E) (w : E) → HasLevels s → HasLevels (with_current s w)
