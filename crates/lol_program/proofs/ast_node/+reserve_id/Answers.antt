use Rattle.std.proofs.Common.{◌≡◌, arith, inl, length, map, refl, sym, subst, ap, ◌∙◌}
use Rattle.std.proofs.lemmas.Result.{IfOk-weaker}
use Rattle.lol_program.specs.Views.{node_of, forest_of, steps_of, tests_of_compound}
use Rattle.lol_program.specs.Forest.{Forest, SiblingsDiffer}
use Rattle.lol_program.specs.Growth.{StandsWith, StandsUnder, grown_under}
use Rattle.lol_program.specs.Indexed.{IsIndexed}
use Rattle.lol_program.specs.NodeViewLaws.{shape}
use Rattle.lol_program.specs.Indices.{HasIndex}
use Rattle.lol_program.specs.declared.ast_node.AstNode.TheViews.{out-AstNode}
use Rattle.lol_program.specs.IdsForNodes.{Fits}
use Rattle.lol_program.proofs.Indexing.{differ_under, indexed_under, next_asks}
use Rattle.lol_program.proofs.Standing.{stands_nowhere, stands_here, stands_further}
use Rattle.lol_program.proofs.ast_node.+reserve_id.Goals as goal
use Rattle.lol_program.proofs.ast_node.+reserve_id.Goals.{in-Child, in-Descendant}

pub unreachable-requires : goal.unreachable-requires
unreachable-requires t c =
    absurd (stands_nowhere (λ ids. Unit {0}) (tests_of_compound c.args.first.now) (steps_of c.args.rest.now) (map node_of c.args.nodes.now) c.in_default.ensures.none c.requires.stands)

pub returns-in-None-clause-fits : goal.returns-in-None-clause-fits
returns-in-None-clause-fits t c =
    IfOk-weaker c.reserve.result _ _
    (λ reserved. (stands_here (Fits reserved) (tests_of_compound c.args.first.now) c.args.rest.now c.args.nodes.now c.in-Some.index c.index-nodes-index.result c.in-None.ensures.cases c.in-Some.ensures.some c.index-nodes-index.is).1)
    c.reserve.ensures.fits

pub reserve_id-requires : goal.reserve_id-requires
reserve_id-requires t c =
    let node_index = c.args.node_index.now in
    let first = tests_of_compound c.args.first.now in
    let nodes = c.args.nodes.now in
    let next = c.add_step.new.list in
    let node = c.index-nodes-index.result in
    let step = c.in-Some-split_first.field-0-0.now in
    let rest = c.in-Some-split_first.rest.now in
    let at : HasIndex first (map node_of nodes) (map node_of nodes) c.in-Some.index = inl (refl, c.in-Some.ensures.some) in
    let here : forest_of c.deref.result.now ≡ grown_under step.0 (shape (out-AstNode node)) =
    ap forest_of c.deref.ensures.value ∙ elim c.match-combinator.branch [
      | in-Child w ↦ ap (λ b. forest_of b.now.items) w.under-is ∙ ap (λ s. grown_under s (shape (out-AstNode node))) (sym w.in-Child.is)
      | in-Descendant w ↦ ap (λ b. forest_of b.now.items) w.under-is ∙ ap (λ s. grown_under s (shape (out-AstNode node))) (sym w.in-Descendant.is)
    ] in
    let asks = next_asks node_index c.args.list.now next c.in-Some.index (shape (out-AstNode node)) step.0 c.add_step.ensures (indexed_under first nodes nodes c.in-Some.index node at c.index-nodes-index.is node_index c.args.list.now c.requires.indexed)
    (differ_under first nodes nodes c.in-Some.index node at c.index-nodes-index.is c.requires.differ) in
    let stands = (stands_further (λ ids. Unit {0}) first c.args.rest.now rest step step.0 nodes c.in-Some.index node c.in-Some-split_first.ensures.cases.0 refl c.in-Some.ensures.some c.index-nodes-index.is).0 c.requires.stands in (
      omega (arith, ap length c.in-Some-split_first.ensures.cases.0),
      subst (λ (f : Forest). IsIndexed node_index next f × (SiblingsDiffer f × StandsUnder (tests_of_compound step.1) (steps_of rest) f)) (sym here) (asks.0, (asks.1, stands)),
    )

pub returns-after-combinator-clause-fits : goal.returns-after-combinator-clause-fits
returns-after-combinator-clause-fits t c =
    let node = c.index-nodes-index.result in
    let step = c.in-Some-split_first.field-0-0.now in
    let rest = c.in-Some-split_first.rest.now in
    let here : forest_of c.deref.result.now ≡ grown_under step.0 (shape (out-AstNode node)) =
    ap forest_of c.deref.ensures.value ∙ elim c.match-combinator.branch [
      | in-Child w ↦ ap (λ b. forest_of b.now.items) w.under-is ∙ ap (λ s. grown_under s (shape (out-AstNode node))) (sym w.in-Child.is)
      | in-Descendant w ↦ ap (λ b. forest_of b.now.items) w.under-is ∙ ap (λ s. grown_under s (shape (out-AstNode node))) (sym w.in-Descendant.is)
    ] in
    IfOk-weaker c.reserve_id.result _ _
    (λ reserved fits. (stands_further (Fits reserved) (tests_of_compound c.args.first.now) c.args.rest.now rest step step.0 c.args.nodes.now c.in-Some.index node c.in-Some-split_first.ensures.cases.0 refl c.in-Some.ensures.some c.index-nodes-index.is).1
    (subst (StandsWith (Fits reserved) (tests_of_compound step.1) (steps_of rest)) here fits))
    c.reserve_id.ensures.fits
