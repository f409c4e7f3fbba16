-- What a contract sees of the tree of selectors.
use Rattle.std.specs.Prelude.{ℕ, Bool, List}
use Rattle.lol_program.specs.Paths.{Path, First}
use Rattle.lol_program.specs.Forest.{Forest, nodes_in, pairs_in}
use Rattle.lol_program.specs.Views.{forest_of}
use Rattle.lol_program.specs.declared.ast.Ast.{Ast}

abbrev pub trees_of : Ast → Forest
trees_of ast = forest_of ast.root.items

-- The paths from its roots to its nodes.
abbrev pub nodes_of : Ast → List Path
nodes_of ast = nodes_in First (trees_of ast)

-- The paths that were added, each with the ids that it was added under.
abbrev pub pairs_of : Ast → List (Path × ℕ)
pairs_of ast = pairs_in First (trees_of ast)

-- whether its program is made with rows
abbrev pub is_with_rows : Ast → Bool
is_with_rows ast = ast.with_rows
