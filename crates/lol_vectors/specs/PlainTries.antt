-- Which nodes the plain matcher tries.
use Rattle.std.specs.Prelude.{Bool, ◌&&◌, List}
use Rattle.lol_instructions.specs.Compounds.{by_names, is_open}
use Rattle.lol_instructions.specs.Tests.{Element}
use Rattle.lol_program.specs.Paths.{Path, last_compound}
use Rattle.lol_machine.specs.Matching.{left_matches}

-- whether a node is tried for an element inside these ones
abbrev pub is_tried_in : List Element → Path → Bool
is_tried_in outer node = left_matches node outer

-- whether it is tried by attributes too
abbrev pub is_tried_open_in : Element → List Element → Path → Bool
is_tried_open_in e outer node = is_tried_in outer node && is_open (by_names (last_compound node) e)
