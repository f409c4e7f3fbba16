-- What the counters of all names keep.
use Rattle.std.specs.Prelude.{ℕ, List}
use Rattle.lol_base.specs.LocalNames.{Name}
use Rattle.lol_stack.specs.NameMaps.{value_of}
use Rattle.lol_stack.specs.CounterLists.{levels_if}
use Rattle.lol_stack.specs.declared.counters.CounterLists.{CounterLists}

-- the levels of a name, and what was counted at each
abbrev pub counters_of : CounterLists → Name → List (ℕ × ℕ)
counters_of lists name = levels_if (value_of lists.map name)
