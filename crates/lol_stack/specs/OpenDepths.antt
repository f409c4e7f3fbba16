-- The depths of the open elements of each name.
use Rattle.std.specs.Prelude.{ℕ, List, [], Option, Some, None}
use Rattle.lol_base.specs.LocalNames.{Name}
use Rattle.lol_stack.specs.NameMaps.{value_of}
use Rattle.lol_stack.specs.declared.open_names.Depths.{Depths}
use Rattle.lol_stack.specs.declared.open_names.OpenNames.{OpenNames}
use Rattle.lol_stack.specs.Depths.{depths_listed}

abbrev pub depths_if : Option Depths → List ℕ
depths_if None = []
depths_if (Some depths) = depths_listed depths

-- the depths of a name
abbrev pub depths_of : OpenNames → Name → List ℕ
depths_of open_names name = depths_if (value_of open_names.map name)
