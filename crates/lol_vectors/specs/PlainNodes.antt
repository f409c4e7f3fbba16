-- The nodes that the plain matcher lists, and the selectors that they are.
use Rattle.std.specs.Prelude.{ℕ, Bool, List, [], ◌∷◌, ◌++◌, map, flat_map}
use Rattle.lol_css.specs.declared.selector.Combinator.{Combinator}
use Rattle.lol_css.specs.declared.selector.Combinator.TheVariants.{Child, Descendant}
use Rattle.lol_memory.specs.Ids.{ascending}
use Rattle.lol_instructions.specs.Compounds.{Compound, NoTests}
use Rattle.lol_program.specs.Paths.{Path, First, Then, Selectors}
use Rattle.lol_program.specs.Predicates.{tests_of}
use Rattle.lol_program.specs.Forest.{Forest, none, more}
use Rattle.lol_vectors.specs.declared.plain_nodes.Step.{Step}
use Rattle.lol_vectors.specs.declared.plain_nodes.PlainNode.{PlainNode}

-- The path of some steps, the last of them first.
abbrev pub path_shown : List Step → Path
path_shown [] = First NoTests
path_shown (step ∷ []) = First (tests_of step.predicate.now)
path_shown (step ∷ before ∷ others) = Then (path_shown (before ∷ others)) step.combinator (tests_of step.predicate.now)

-- the path of some steps and one compound more
abbrev pub path_to : List Step → Combinator → Compound → Path
path_to [] combinator compound = First compound
path_to (step ∷ others) combinator compound = Then (path_shown (step ∷ others)) combinator compound

-- a node by its path and its ids
abbrev pub node_shown : PlainNode → Path × List ℕ
node_shown n = (path_shown n.path.items, ascending n.ids.now)

-- The nodes of trees, each before those under it.
abbrev pub nodes_listed : (Compound → Path) → Forest → List (Path × List ℕ)
nodes_listed make none = []
nodes_listed make (more c ids children descendants rest) =
    (make c, ids)
    ∷ (nodes_listed (Then (make c) Child) children
    ++ (nodes_listed (Then (make c) Descendant) descendants
    ++ nodes_listed make rest))

abbrev pub pairs_at : Path × List ℕ → List (Path × ℕ)
pairs_at node = map (λ id. (node.0, id)) node.1

-- The selectors that listed nodes are, spared by keys or not.
abbrev pub selectors_listed : Bool → List (Path × List ℕ) → Selectors
selectors_listed by_keys nodes = record { pairs = flat_map pairs_at nodes; nodes = map (λ node. node.0) nodes; by_keys = by_keys }

abbrev pub selectors_shown : Bool → List PlainNode → Selectors
selectors_shown by_keys nodes = selectors_listed by_keys (map node_shown nodes)

-- their pairs and their nodes
abbrev pub pairs_of : List PlainNode → List (Path × ℕ)
pairs_of nodes = flat_map pairs_at (map node_shown nodes)

abbrev pub paths_of : List PlainNode → List Path
paths_of nodes = map (λ node. node.0) (map node_shown nodes)
