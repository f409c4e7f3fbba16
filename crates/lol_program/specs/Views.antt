-- What the nodes of the tree stand for.
use Rattle.std.specs.Prelude.{List, [], ◌∷◌, map}
use Rattle.lol_memory.specs.Ids.{ascending}
use Rattle.lol_css.specs.TreeViews.{compound_of}
use Rattle.lol_css.specs.declared.selector.Combinator.{Combinator}
use Rattle.lol_css.specs.declared.selector.Compound as css
use Rattle.lol_instructions.specs.Compounds.{Compound}
use Rattle.lol_program.specs.Conditions.{compound_tests}
use Rattle.lol_program.specs.Forest.{Node, Forest, none, link}
use Rattle.lol_program.specs.Predicates.{tests_of}
use Rattle.lol_program.specs.declared.ast_node.AstNode.{AstNode}
use Rattle.lol_program.specs.declared.ast_node.AstNode.TheOpen.{AstNode-F}
use Rattle.lol_program.specs.declared.ast_node.AstNode.TheFolds.{fold-AstNode}

abbrev pub linked : List Node → Forest
linked [] = none
linked (n ∷ ns) = link n (linked ns)

-- one node, with what stands for each node under it in its place
abbrev pub node_step : AstNode-F Node → Node
node_step f =
    record {
      compound = tests_of f.predicate;
      ids = ascending f.match_ids;
      children = linked f.children.items;
      descendants = linked f.descendants.items;
    }

abbrev pub node_of : AstNode → Node
node_of = fold-AstNode Node node_step

-- The trees of a list of nodes.
abbrev pub forest_of : List AstNode → Forest
forest_of nodes = linked (map node_of nodes)

-- the tests of a compound of a selector
abbrev pub tests_of_compound : css.Compound → Compound
tests_of_compound compound = compound_tests (compound_of compound)

-- further compounds, each by a step
abbrev pub step_shown : Combinator × css.Compound → Combinator × Compound
step_shown step = (step.0, tests_of_compound step.1)

abbrev pub steps_of : List (Combinator × css.Compound) → List (Combinator × Compound)
steps_of steps = map step_shown steps
