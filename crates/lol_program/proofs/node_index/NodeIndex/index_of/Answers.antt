use Rattle.std.proofs.Common.{◌≤◌, arith, length, map, subst, sym, List}
use Rattle.std.proofs.lemmas.List.{length-map, length-take, take-map}
use Rattle.lol_program.specs.Forest.{Node}
use Rattle.lol_program.specs.Indexed.{few}
use Rattle.lol_program.specs.Indices.{IsIndex, IsNowhere}
use Rattle.lol_program.specs.Views.{node_of, tests_of_compound}
use Rattle.lol_program.proofs.Indexing.{nowhere_after_first, index_among_first, if_none}
use Rattle.lol_program.proofs.node_index.NodeIndex.index_of.Goals as goal

pub slice_bounds-first_index_of-end : goal.slice_bounds-first_index_of-end
slice_bounds-first_index_of-end c = omega (arith, length-take few c.args.nodes.now, c.if-nodes-le-FEW.false)

pub returns-in-Some-clause-some : goal.returns-in-Some-clause-some
returns-in-Some-clause-some c =
    let nodes = c.args.nodes.now in
    let first = tests_of_compound c.args.compound.now in
    index_among_first first (map node_of nodes) few c.in-Some.index (subst (λ (ns : List Node). IsIndex first ns c.in-Some.index) (sym (take-map node_of few nodes)) c.in-Some.ensures.some)

pub returns-clause-none : goal.returns-clause-none
returns-clause-none c =
    let nodes = c.args.nodes.now in
    let first = tests_of_compound c.args.compound.now in
    let long : few ≤ length (map node_of nodes) = omega (arith, length-map nodes node_of, c.if-nodes-le-FEW.false) in
    let before = subst (IsNowhere first) (sym (take-map node_of few nodes)) c.in_default.ensures.none in
    if_none c.index_by_key.result (nowhere_after_first first (map node_of nodes) few long before) c.index_by_key.ensures.none
