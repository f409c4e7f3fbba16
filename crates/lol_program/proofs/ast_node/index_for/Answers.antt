use Rattle.lol_program.specs.Predicates.{tests_of}
use Rattle.std.proofs.Common.{arith, rules, ◌≡◌, length, ap, subst, sym, ◌∙◌, List}
use Rattle.lol_program.specs.Growth.{fresh}
use Rattle.lol_program.specs.Indexed.{IsIndexed}
use Rattle.lol_program.specs.declared.ast_node.AstNode.{AstNode}
use Rattle.lol_program.specs.declared.node_index.NodeIndex.{NodeIndex}
use Rattle.lol_program.specs.NodeViewLaws.{size_push}
use Rattle.lol_program.specs.Views.{forest_of, tests_of_compound}
use Rattle.lol_program.proofs.Indexing.{indexed_grows, indexed_push}
use Rattle.lol_program.proofs.ast_node.index_for.Goals as goal

pub returns-clause-count : goal.returns-clause-count
returns-clause-count c =
    rw c.in_ok-push.ensures.items
    (omega (arith, size_push c.args.nodes.now.items c.fresh_node.result (tests_of c.in_ok-predicate.predicate) c.fresh_node.ensures, c.in-Some-checked_add.ensures))

pub returns-in_err-insert-clause-indexed : goal.returns-in_err-insert-clause-indexed
returns-in_err-insert-clause-indexed c = indexed_grows c.args.node_index.now c.insert.new.self c.in_err-insert.ensures.keeps c.args.list.now 0 (forest_of c.args.nodes.now.items) c.requires.indexed

pub returns-in_err-push-clause-indexed : goal.returns-in_err-push-clause-indexed
returns-in_err-push-clause-indexed c =
    let node_index = c.insert.new.self in
    subst (λ (nodes : List AstNode). IsIndexed node_index c.args.list.now (forest_of nodes)) (sym {A = List AstNode} c.in_err-push.ensures.items)
    (indexed_grows c.args.node_index.now node_index c.in_ok-insert.ensures.keeps c.args.list.now 0 (forest_of c.args.nodes.now.items) c.requires.indexed)

pub returns-clause-indexed : goal.returns-clause-indexed
returns-clause-indexed c =
    let nodes = c.args.nodes.now.items in
    let list = c.args.list.now in
    let first = tests_of_compound c.args.compound.now in
    let node_index : NodeIndex = record { alloc = c.insert.new.self.alloc; indices = c.insert.new.self.indices; node_count = c.in-Some-checked_add.more } in
    let last : c.len-index.result ≡ length nodes = search rules in
    let grown = indexed_grows c.args.node_index.now node_index c.in_ok-insert.ensures.keeps list 0 (forest_of nodes) c.requires.indexed in
    subst (λ (after : List AstNode). IsIndexed node_index list (forest_of after)) (sym {A = List AstNode} c.in_ok-push.ensures.items)
    (indexed_push node_index list nodes c.fresh_node.result first c.len-index.result (c.fresh_node.ensures ∙ ap fresh c.in_ok-predicate.ensures) last grown c.in_ok-insert.ensures.listed)
