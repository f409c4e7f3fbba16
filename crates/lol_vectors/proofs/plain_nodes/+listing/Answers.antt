use Rattle.std.proofs.Common.{◌++◌, List, map, refl, ap, ◌∙◌}
use Rattle.std.proofs.lemmas.Result.{on_ok_weaker}
use Rattle.lol_css.specs.declared.selector.Combinator.TheVariants.{Child, Descendant}
use Rattle.lol_program.specs.Views.{forest_of}
use Rattle.lol_program.specs.declared.ast_node.AstNode.{AstNode}
use Rattle.lol_vectors.specs.PlainNodes.{path_to, node_shown, nodes_listed}
use Rattle.lol_vectors.specs.declared.plain_nodes.Step.{Step}
use Rattle.lol_vectors.proofs.PlainListed.{listed_more, listed_under}
use Rattle.lol_vectors.proofs.plain_nodes.+listing.Goals as goal

pub list_nodes-loop-node-preserved : goal.list_nodes-loop-node-preserved
list_nodes-loop-node-preserved t c =
    listed_more (path_to c.args.above.now c.args.combinator) c.args.nodes.now c.loop-node.node-index c.node-item.result c.args.listed.now.items c.loop-node.listed.items c.list_node.new.listed.items
    c.loop-node-test.true c.node-item.is c.loop-node.invariant c.in_ok-list_node.ensures

pub list_node-returns : goal.list_node-returns
list_node-returns t c =
    let x = c.args.node.now in
    let old = c.args.listed.now.items in
    let pushed = c.push.new.self.items in
    let inner = c.list_nodes.new.listed.items in
    let new = c.list_nodes-2.new.listed.items in
    let path = c.in_ok-path.path.items in
    let children = ap (λ (p : List Step). map node_shown pushed ++ nodes_listed (path_to p Child) (forest_of c.deref.result.now)) c.deref-2.ensures.value
    ∙ ap (λ (ns : List AstNode). map node_shown pushed ++ nodes_listed (path_to path Child) (forest_of ns)) c.deref.ensures.value in
    let descendants = ap (λ (p : List Step). map node_shown inner ++ nodes_listed (path_to p Descendant) (forest_of c.deref-3.result.now)) c.deref-4.ensures.value
    ∙ ap (λ (ns : List AstNode). map node_shown inner ++ nodes_listed (path_to path Descendant) (forest_of ns)) c.deref-3.ensures.value in
    on_ok_weaker c.list_nodes-2.result
    (λ told. listed_under x c.args.above.now _ refl old pushed inner new path _ c.in_ok-path.ensures c.in_ok-under.ensures refl c.in_ok-push.ensures.items
    (c.in_ok-list_nodes.ensures ∙ children) (told ∙ descendants))
    c.list_nodes-2.ensures
