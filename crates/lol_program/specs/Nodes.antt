-- The nodes of pairs, as a list.
use Rattle.std.specs.Prelude.{ℕ, if◌then◌else◌, false, List, [], ◌∷◌}
use Rattle.std.specs.List.{list_any}
use Rattle.lol_program.specs.Paths.{Path, Selectors, all_beginnings}
use Rattle.lol_program.specs.Same.{same_path}

-- each path of a list, once
abbrev pub each_once : List Path → List Path
each_once [] = []
each_once (path ∷ paths) = let rest = each_once paths in if list_any (same_path path) rest then rest else path ∷ rest

-- The beginnings of the paths, each once.
abbrev pub nodes_of_pairs : List (Path × ℕ) → List Path
nodes_of_pairs pairs = each_once (all_beginnings pairs)

-- What is looked for where no selector was refused, with no node spared.
abbrev pub selectors_of : List (Path × ℕ) → Selectors
selectors_of pairs = record { pairs = pairs; nodes = nodes_of_pairs pairs; by_keys = false }
