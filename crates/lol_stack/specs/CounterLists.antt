-- What the counters of one name keep.
use Rattle.std.specs.Prelude.{ℕ, List, [], ◌∷◌, ◌++◌, map, Option, Some, None}
use Rattle.lol_stack.specs.declared.counters.CounterItem.{CounterItem}
use Rattle.lol_stack.specs.declared.counters.CounterList.{CounterList}

-- a level, and what was counted there
abbrev pub item_level : CounterItem → ℕ × ℕ
item_level item = (item.index, item.counter)

-- the levels of one name, the last one last
abbrev pub list_levels : CounterList → List (ℕ × ℕ)
list_levels list = map item_level list.items.items ++ item_level list.current ∷ []

abbrev pub levels_if : Option CounterList → List (ℕ × ℕ)
levels_if None = []
levels_if (Some list) = list_levels list
