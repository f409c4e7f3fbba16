-- The list of the tree's nodes.
use Rattle.std.proofs.Common.{◌≡◌, ℕ, ◌+◌, ◌<◌, Bool, cond, List, [], ◌∷◌, ◌++◌, map, take, length, get_or, refl, sym, ap, ◌∙◌, arith, append_assoc}
use Rattle.std.specs.List.{count_by, flat_map}
use Rattle.std.proofs.lemmas.List.{append-nil, map_push}
use Rattle.std.proofs.lemmas.List.Sums.{sum_by-append}
use Rattle.std.proofs.lemmas.Grind.{flat_map-append}
use Rattle.lol_base.specs.ListLaws.{mapped_more}
use Rattle.lol_css.specs.declared.selector.Combinator.TheVariants.{Child, Descendant}
use Rattle.lol_memory.specs.Ids.{ascending}
use Rattle.lol_instructions.specs.Compounds.{Compound}
use Rattle.lol_program.specs.Paths.{Path, Then}
use Rattle.lol_program.specs.Predicates.{tests_of}
use Rattle.lol_program.specs.Forest.{Node}
use Rattle.lol_program.specs.Views.{node_of, linked, forest_of}
use Rattle.lol_program.specs.NodeViewLaws.{node_out}
use Rattle.lol_program.specs.declared.ast_node.AstNode.{AstNode}
use Rattle.lol_program.specs.declared.ast_node.AstNode.TheViews.{out-AstNode}
use Rattle.lol_vectors.specs.PlainNodes.{path_shown, path_to, node_shown, nodes_listed, pairs_at, pairs_of, paths_of}
use Rattle.lol_vectors.specs.declared.plain_nodes.Step.{Step}
use Rattle.lol_vectors.specs.declared.plain_nodes.PlainNode.{PlainNode}

-- 1. One tree more

listed-push : (make : Compound → Path) (ns : List Node) (n : Node) → nodes_listed make (linked (ns ++ n ∷ [])) ≡ nodes_listed make (linked ns) ++ nodes_listed make (linked (n ∷ []))
listed-push make [] n = refl
listed-push make (m ∷ ns) n =
    let children = nodes_listed (Then (make m.compound) Child) m.children in
    let descendants = nodes_listed (Then (make m.compound) Descendant) m.descendants in
    ap (λ l. (make m.compound, m.ids) ∷ (children ++ (descendants ++ l))) (listed-push make ns n) ∙ sym (simp append_assoc)

pub listed_more : (make : Compound → Path) (nodes : List AstNode) (i : ℕ) (x : AstNode) (old listed new : List PlainNode) → i < length nodes → x ≡ get_or nodes i x
    → map node_shown listed ≡ map node_shown old ++ nodes_listed make (forest_of (take i nodes))
    → map node_shown new ≡ map node_shown listed ++ nodes_listed make (linked (node_of x ∷ []))
    → map node_shown new ≡ map node_shown old ++ nodes_listed make (forest_of (take (i + 1) nodes))
listed_more make nodes i x old listed new within at before here =
    here ∙ ap (λ l. l ++ nodes_listed make (linked (node_of x ∷ []))) before
    ∙ append_assoc (map node_shown old) (nodes_listed make (forest_of (take i nodes))) (nodes_listed make (linked (node_of x ∷ [])))
    ∙ ap (λ l. map node_shown old ++ l) (sym (ap (λ ns. nodes_listed make (linked ns)) (mapped_more node_of nodes i x within at) ∙ listed-push make (map node_of (take i nodes)) (node_of x)))

-- 2. One tree, by its root

path_shown_is : (above : List Step) (step : Step) → path_shown (step ∷ above) ≡ path_to above step.combinator (tests_of step.predicate.now)
path_shown_is [] step = refl
path_shown_is (s ∷ above) step = refl

module _ (x : AstNode) (above : List Step) (step : Step) (same : step.predicate.now ≡ (out-AstNode x).predicate) where
  own_path : path_shown (step ∷ above) ≡ path_to above step.combinator (tests_of (out-AstNode x).predicate)
  own_path = path_shown_is above step ∙ ap (λ p. path_to above step.combinator (tests_of p)) same

  pub listed_under : (old pushed inner new : List PlainNode) (path : List Step) (node : PlainNode) → path ≡ step ∷ above → node.path.items ≡ step ∷ above → node.ids.now ≡ (out-AstNode x).match_ids
      → pushed ≡ old ++ node ∷ []
      → map node_shown inner ≡ map node_shown pushed ++ nodes_listed (path_to path Child) (forest_of (out-AstNode x).children.items)
      → map node_shown new ≡ map node_shown inner ++ nodes_listed (path_to path Descendant) (forest_of (out-AstNode x).descendants.items)
      → map node_shown new ≡ map node_shown old ++ nodes_listed (path_to above step.combinator) (linked (node_of x ∷ []))
  listed_under old pushed inner new path node is own ids push children descendants =
      let front = map node_shown old in
      let all = λ (q : Path). (q, ascending (out-AstNode x).match_ids)
      ∷ (nodes_listed (Then q Child) (forest_of (out-AstNode x).children.items) ++ (nodes_listed (Then q Descendant) (forest_of (out-AstNode x).descendants.items) ++ [])) in
      let path' = path_shown (step ∷ above) in
      let cs = nodes_listed (Then path' Child) (forest_of (out-AstNode x).children.items) in
      let ds = nodes_listed (Then path' Descendant) (forest_of (out-AstNode x).descendants.items) in
      let pushed' : map node_shown pushed ≡ front ++ (path', ascending (out-AstNode x).match_ids) ∷ [] =
      ap (map node_shown) push ∙ map_push node_shown old node ∙ (λ i. front ++ (path_shown (own i), ascending (ids i)) ∷ []) in
      let inner' : map node_shown inner ≡ map node_shown pushed ++ cs = children ∙ ap (λ p. map node_shown pushed ++ nodes_listed (path_to p Child) (forest_of (out-AstNode x).children.items)) is in
      let new' : map node_shown new ≡ map node_shown inner ++ ds = descendants ∙ ap (λ p. map node_shown inner ++ nodes_listed (path_to p Descendant) (forest_of (out-AstNode x).descendants.items)) is in
      let regroup : ((front ++ (path', ascending (out-AstNode x).match_ids) ∷ []) ++ cs) ++ ds ≡ front ++ all path' = simp (append_assoc, append-nil) in
      new' ∙ ap (λ l. l ++ ds) (inner' ∙ ap (λ l. l ++ cs) pushed') ∙ regroup ∙ ap (λ q. front ++ all q) own_path
      ∙ ap (λ (n : Node). front ++ nodes_listed (path_to above step.combinator) (linked (n ∷ []))) (sym (node_out x))

-- 3. The selectors of one node more

pub paths_more : (nodes : List PlainNode) (i : ℕ) (n : PlainNode) → i < length nodes → n ≡ get_or nodes i n → paths_of (take (i + 1) nodes) ≡ paths_of (take i nodes) ++ path_shown n.path.items ∷ []
paths_more nodes i n within at =
    ap (map (λ (node : Path × List ℕ). node.0)) (mapped_more node_shown nodes i n within at) ∙ map_push (λ (node : Path × List ℕ). node.0) (map node_shown (take i nodes)) (node_shown n)

pub pairs_more : (nodes : List PlainNode) (i : ℕ) (n : PlainNode) → i < length nodes → n ≡ get_or nodes i n → pairs_of (take (i + 1) nodes) ≡ pairs_of (take i nodes) ++ pairs_at (node_shown n)
pairs_more nodes i n within at =
    ap (flat_map pairs_at) (mapped_more node_shown nodes i n within at) ∙ flat_map-append pairs_at (map node_shown (take i nodes)) (node_shown n ∷ [])
    ∙ ap (λ l. flat_map pairs_at (map node_shown (take i nodes)) ++ l) (append-nil (pairs_at (node_shown n)))

pub count_push : {A : Type 0} (p : A → Bool) (xs : List A) (x : A) → count_by p (xs ++ x ∷ []) ≡ count_by p xs + cond (p x) 1 0
count_push p xs x = omega (arith, sum_by-append (λ y. cond (p y) 1 0) xs (x ∷ []))
