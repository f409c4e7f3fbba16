-- What a stack ends as, where the data of its last element are lent.
use Rattle.std.specs.Prelude.{ℕ, ◌-◌, List, length, slice_get, slice_set, Option, Some, None}
use Rattle.std.specs.Borrow.{LendsIf, RattleType, MutBor, Fml}
use Rattle.lol_memory.specs.LimitedVec.{with_items}
use Rattle.lol_stack.specs.Lending.{with_data}
use Rattle.lol_stack.specs.declared.stack_item.StackItemOf.{StackItemOf}
use Rattle.lol_stack.specs.declared.stack.StackOf.{StackOf}
use Rattle.lol_stack.specs.contracts.stack.StackOf.{the_row as stack_row}

module _ {N E : Type 0} where
  abbrev pub with_data_if : List (StackItemOf N E) → ℕ → E → Option (StackItemOf N E) → List (StackItemOf N E)
  with_data_if items depth w None = items
  with_data_if items depth w (Some item) = slice_set items depth (with_data item w)

  -- the elements, with other data at one depth
  abbrev pub with_data_at : List (StackItemOf N E) → ℕ → E → List (StackItemOf N E)
  with_data_at items depth w = with_data_if items depth w (slice_get items depth)

  -- the stack, with other data of its last element
  abbrev pub with_current : {M : Type 0} → StackOf N M E → E → StackOf N M E
  with_current s w = record s { items = with_items s.items (with_data_at s.items.items (length s.items.items - 1) w) }

-- once the borrow r ends, the last element has the data that r shows last
abbrev pub lends_current : (N M E : RattleType) → MutBor (StackOf N.Denot M.Denot E.Denot) → Option (MutBor E.Denot) → Fml
lends_current N M E s r = LendsIf (stack_row N M E) E s r (with_current s.now) s.now
