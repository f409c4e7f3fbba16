-- The equations of what the nodes stand for.
use Rattle.std.proofs.Common.{ℕ, ◌≡◌, ◌≢◌, ◌<◌, ◌≤◌, ◌+◌, ◌⊎◌, inl, inr, ⊎_elim, arith, ◌++◌, map, get_or, length, List, [], ◌∷◌, ap, sym, ◌∙◌}
use Rattle.std.proofs.lemmas.List.{get_or-map}
use Rattle.lol_memory.specs.Ids.{ascending}
use Rattle.lol_instructions.specs.Compounds.{Compound}
use Rattle.lol_program.specs.Forest.{Node, none, link, size}
use Rattle.lol_program.specs.Growth.{fresh}
use Rattle.lol_program.specs.Predicates.{tests_of}
use Rattle.std.proofs.lemmas.Bool.{cases_lt}
use Rattle.lol_program.specs.Views.{node_of, node_step, forest_of}
use Rattle.lol_program.specs.declared.ast_node.AstNode.{AstNode}
use Rattle.lol_program.specs.declared.ast_node.AstNode.TheOpen.{AstNode-F}
use Rattle.lol_program.specs.declared.ast_node.AstNode.TheViews.{out-AstNode, roll-AstNode}
use Rattle.lol_program.specs.declared.ast_node.AstNode.TheFolds.{fold-roll-AstNode, fold_out-AstNode}

abbrev pub shape : AstNode-F AstNode → Node
shape x = record { compound = tests_of x.predicate; ids = ascending x.match_ids; children = forest_of x.children.items; descendants = forest_of x.descendants.items }

pub node_roll : (x : AstNode-F AstNode) → node_of (roll-AstNode x) ≡ shape x
node_roll = fold-roll-AstNode Node node_step

pub node_out : (n : AstNode) → node_of n ≡ shape (out-AstNode n)
node_out = fold_out-AstNode Node node_step

-- the compound of the node at i
pub compound_at : (nodes : List AstNode) (i : ℕ) (e : AstNode) (d : Node) → i < length nodes → (get_or (map node_of nodes) i d).compound ≡ tests_of (out-AstNode (get_or nodes i e)).predicate
compound_at nodes i e d h = ap (λ (n : Node). n.compound) (get_or-map node_of nodes i e d h ∙ node_out (get_or nodes i e))

-- one more node that hasn't the compound
pub none_before : (c : Compound) (nodes : List AstNode) (i j : ℕ) (x : AstNode) → i ≡ j → j < length nodes → x ≡ get_or nodes j x → (tests_of (out-AstNode x).predicate ≡ c → ⊥)
    → ((k : ℕ) (d : Node) → k < i → (get_or (map node_of nodes) k d).compound ≢ c) → (k : ℕ) (d : Node) → k < i + 1 → (get_or (map node_of nodes) k d).compound ≢ c
none_before c nodes i j x same within at not before k d below eq = go (lt_or_eq)
  where
    here : (k ≡ j) → ⊥
    here e = not (sym (ap (λ n. tests_of (out-AstNode n).predicate) (sym at)) ∙ (sym (compound_at nodes j x d within) ∙ (ap (λ m. (get_or (map node_of nodes) m d).compound) (sym e) ∙ eq)))

    lt_or_eq : (k < i) ⊎ (k ≡ j)
    lt_or_eq = ⊎_elim (λ (h : k < i). inl h) (λ (h : i ≤ k). inr (omega arith)) (cases_lt k i)

    go : (k < i) ⊎ (k ≡ j) → ⊥
    go (inl h) = before k d h eq
    go (inr e) = here e

pub size_push : (nodes : List AstNode) (x : AstNode) (c : Compound) → node_of x ≡ fresh c → size (forest_of (nodes ++ x ∷ [])) ≡ size (forest_of nodes) + 1
size_push [] x c e = ap (λ n. size (link n none)) e
size_push (n ∷ nodes) x c e = omega (arith, size_push nodes x c e)
