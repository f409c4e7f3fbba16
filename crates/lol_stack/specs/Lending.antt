-- What the values that lend an element's data end as.
use Rattle.std.specs.Borrow.{Lends, RattleType, MutBor, Fml}
use Rattle.lol_stack.specs.declared.stack_item.StackItemOf.{StackItemOf}
use Rattle.lol_stack.specs.contracts.stack_item.StackItemOf.{the_row as item_row}

-- the element with other data
abbrev pub with_data : {N E : Type 0} → StackItemOf N E → E → StackItemOf N E
with_data item w = record item { element_data = w }

-- once the borrow r ends, the element has the data that r shows last
abbrev pub lends_data : (N E : RattleType) → MutBor (StackItemOf N.Denot E.Denot) → MutBor E.Denot → Fml
lends_data N E item r = Lends (item_row N E) E item r (with_data item.now)
