use Rattle.lol_program.specs.Predicates.{tests_of}
use Rattle.std.proofs.Common.{arith, suc, ◌≡◌, length, map, refl, ap, subst, ◌∙◌}
use Rattle.std.specs.Prelude.{slice_set}
use Rattle.std.specs.declared.hash.DefaultHasher.{DefaultHasher}
use Rattle.std.proofs.lemmas.Result.{on_ok_weaker, on_err_weaker}
use Rattle.lol_memory.specs.Ids.{Ids}
use Rattle.lol_css.specs.declared.selector.Combinator.TheVariants.{Child, Descendant}
use Rattle.lol_program.specs.IdsForNodes.{id_in, Fits}
use Rattle.lol_program.specs.Views.{node_of, forest_of, steps_of, tests_of_compound}
use Rattle.lol_program.specs.Growth.{Adds, AddsFirst, Takes, Under}
use Rattle.lol_program.specs.declared.ast_node.AstNode.TheViews.{out-AstNode, roll-AstNode}
use Rattle.lol_program.specs.NodeKeys.{list_under}
use Rattle.lol_program.specs.NodeViewLaws.{shape}
use Rattle.lol_program.specs.Indexed.{IsIndexed}
use Rattle.lol_program.proofs.Indexing.{differ_under, indexed_grows, indexed_under, next_asks, set_indexed}
use Rattle.lol_program.proofs.Placed.{set_at_index, size_set, index_within, adds_none, adds_some, first_none, first_some}
use Rattle.lol_program.proofs.Standing.{SetTakes-Takes, stands_nowhere, stands_last, stands_next}
use Rattle.lol_program.proofs.ast_node.+add_path.Goals as goal

pub add_path-requires : goal.add_path-requires
add_path-requires t c =
    let n = c.index_mut-node.result.now in
    let old = c.args.nodes.now.items in
    let mid = c.index_for.new.nodes.items in
    let i = c.in_ok-index.index in
    let fc = tests_of_compound c.args.first.now in
    let at = c.in_ok-index.ensures.index in
    let is = c.index_mut-node.ensures.value in
    let list = c.args.list.now in
    let node_index = c.index_for.new.node_index in
    let indexed = c.in_ok-index.ensures.indexed in
    let next = c.add_step.ensures ∙ ap (list_under list i) c.in-Child.is in
    let asks = next_asks node_index list c.add_step.new.list i (shape (out-AstNode n)) Child next (indexed_under fc old mid i n at is node_index list indexed) (differ_under fc old mid i n at is c.requires.differ) in (
      omega (arith, ap length c.in-Some.ensures.cases.0),
      (asks.0, (asks.1, λ reserved. stands_next (Fits c.args.id) fc c.args.rest.now c.in-Some.rest.now c.in-Some.field-0-0.now Child old mid i n c.in-Some.ensures.cases.0 c.in-Child.is at is (c.requires.fits reserved))),
    )

pub add_path-requires-in-Descendant : goal.add_path-requires-in-Descendant
add_path-requires-in-Descendant t c =
    let n = c.index_mut-node.result.now in
    let old = c.args.nodes.now.items in
    let mid = c.index_for.new.nodes.items in
    let i = c.in_ok-index.index in
    let fc = tests_of_compound c.args.first.now in
    let at = c.in_ok-index.ensures.index in
    let is = c.index_mut-node.ensures.value in
    let list = c.args.list.now in
    let node_index = c.index_for.new.node_index in
    let indexed = c.in_ok-index.ensures.indexed in
    let next = c.add_step.ensures ∙ ap (list_under list i) c.in-Descendant.is in
    let asks = next_asks node_index list c.add_step.new.list i (shape (out-AstNode n)) Descendant next (indexed_under fc old mid i n at is node_index list indexed) (differ_under fc old mid i n at is c.requires.differ) in (
      omega (arith, ap length c.in-Some.ensures.cases.0),
      (asks.0, (asks.1, λ reserved. stands_next (Fits c.args.id) fc c.args.rest.now c.in-Some.rest.now c.in-Some.field-0-0.now Descendant old mid i n c.in-Some.ensures.cases.0 c.in-Descendant.is at is (c.requires.fits reserved))),
    )

pub returns-in-None-clause-indexed : goal.returns-in-None-clause-indexed
returns-in-None-clause-indexed t c =
    let n = c.index_mut-node.result.now in
    let old = c.args.nodes.now.items in
    let mid = c.index_for.new.nodes.items in
    let i = c.in_ok-index.index in
    let fc = tests_of_compound c.args.first.now in
    let at = c.in_ok-index.ensures.index in
    let is = c.index_mut-node.ensures.value in
    let list = c.args.list.now in
    let node_index = c.index_for.new.node_index in
    let indexed = c.in_ok-index.ensures.indexed in
    set_indexed fc old mid i n at is node_index list (record { predicate = (out-AstNode n).predicate; children = (out-AstNode n).children; descendants = (out-AstNode n).descendants; match_ids = c.add_to.new.ids }) indexed refl (indexed_under fc old mid i n at is node_index list indexed)

pub returns-in-Child-clause-indexed : goal.returns-in-Child-clause-indexed
returns-in-Child-clause-indexed t c =
    let n = c.index_mut-node.result.now in
    let old = c.args.nodes.now.items in
    let mid = c.index_for.new.nodes.items in
    let i = c.in_ok-index.index in
    let fc = tests_of_compound c.args.first.now in
    let at = c.in_ok-index.ensures.index in
    let is = c.index_mut-node.ensures.value in
    let list = c.args.list.now in
    let node_index = c.index_for.new.node_index in
    let indexed = c.in_ok-index.ensures.indexed in
    let last = c.add_path.new.node_index in
    let next = c.add_step.ensures ∙ ap (list_under list i) c.in-Child.is in
    let grown = indexed_grows node_index last c.add_path.ensures.keeps list 0 (forest_of mid) indexed in
    let stays = indexed_under fc old mid i n at is last list grown in
    set_indexed fc old mid i n at is last list (record { predicate = (out-AstNode n).predicate; children = c.add_path.new.nodes; descendants = (out-AstNode n).descendants; match_ids = (out-AstNode n).match_ids }) grown refl (subst (λ (l : DefaultHasher). IsIndexed last l (forest_of c.add_path.new.nodes.items)) next c.add_path.ensures.indexed, stays.1)

pub returns-in-Descendant-clause-indexed : goal.returns-in-Descendant-clause-indexed
returns-in-Descendant-clause-indexed t c =
    let n = c.index_mut-node.result.now in
    let old = c.args.nodes.now.items in
    let mid = c.index_for.new.nodes.items in
    let i = c.in_ok-index.index in
    let fc = tests_of_compound c.args.first.now in
    let at = c.in_ok-index.ensures.index in
    let is = c.index_mut-node.ensures.value in
    let list = c.args.list.now in
    let node_index = c.index_for.new.node_index in
    let indexed = c.in_ok-index.ensures.indexed in
    let last = c.add_path-in-Descendant.new.node_index in
    let next = c.add_step.ensures ∙ ap (list_under list i) c.in-Descendant.is in
    let grown = indexed_grows node_index last c.add_path-in-Descendant.ensures.keeps list 0 (forest_of mid) indexed in
    let stays = indexed_under fc old mid i n at is last list grown in
    set_indexed fc old mid i n at is last list (record { predicate = (out-AstNode n).predicate; children = (out-AstNode n).children; descendants = c.add_path-in-Descendant.new.nodes; match_ids = (out-AstNode n).match_ids }) grown refl (stays.0, subst (λ (l : DefaultHasher). IsIndexed last l (forest_of c.add_path-in-Descendant.new.nodes.items)) next c.add_path-in-Descendant.ensures.indexed)

pub returns-in_err-index-clause-no_memory : goal.returns-in_err-index-clause-no_memory
returns-in_err-index-clause-no_memory t c stands =
    absurd (stands_nowhere (Fits c.args.id) (tests_of_compound c.args.first.now) (steps_of c.args.rest.now) (map node_of c.args.nodes.now.items) c.in_err-index.ensures.no_memory stands)

pub add_to-requires : goal.add_to-requires
add_to-requires t c reserved =
    stands_last (Fits c.args.id) (tests_of_compound c.args.first.now) c.args.rest.now c.args.nodes.now.items c.index_for.new.nodes.items c.in_ok-index.index c.index_mut-node.result.now c.in-None.ensures.cases c.in_ok-index.ensures.index c.index_mut-node.ensures.value (c.requires.fits reserved)

pub returns-in-None-clause-no_memory : goal.returns-in-None-clause-no_memory
returns-in-None-clause-no_memory t c stands =
    c.add_to.ensures.no_memory
    (stands_last (Fits c.args.id) (tests_of_compound c.args.first.now) c.args.rest.now c.args.nodes.now.items c.index_for.new.nodes.items c.in_ok-index.index c.index_mut-node.result.now c.in-None.ensures.cases c.in_ok-index.ensures.index c.index_mut-node.ensures.value stands)

pub returns-in-None-clause-added : goal.returns-in-None-clause-added
returns-in-None-clause-added t c =
    let n = c.index_mut-node.result.now in
    let old = c.args.nodes.now.items in
    let mid = c.index_for.new.nodes.items in
    let i = c.in_ok-index.index in
    let fc = tests_of_compound c.args.first.now in
    let at = c.in_ok-index.ensures.index in
    let is = c.index_mut-node.ensures.value in
    let id = id_in c.args.id in
    on_ok_weaker c.add_to.result
    (λ w. adds_none id fc c.args.rest.now (forest_of old) (forest_of (slice_set mid i (roll-AstNode (record { predicate = (out-AstNode n).predicate; children = (out-AstNode n).children; descendants = (out-AstNode n).descendants; match_ids = c.add_to.new.ids })))) c.in-None.ensures.cases
    (set_at_index fc (Takes id) old mid i n (record { predicate = (out-AstNode n).predicate; children = (out-AstNode n).children; descendants = (out-AstNode n).descendants; match_ids = c.add_to.new.ids }) at is (SetTakes-Takes id (tests_of (out-AstNode n).predicate) (out-AstNode n).match_ids c.add_to.new.ids (forest_of (out-AstNode n).children.items) (forest_of (out-AstNode n).descendants.items) w)))
    c.add_to.ensures.added

pub returns-in-None-clause-partly : goal.returns-in-None-clause-partly
returns-in-None-clause-partly t c =
    let n = c.index_mut-node.result.now in
    let old = c.args.nodes.now.items in
    let mid = c.index_for.new.nodes.items in
    let i = c.in_ok-index.index in
    let fc = tests_of_compound c.args.first.now in
    let at = c.in_ok-index.ensures.index in
    let is = c.index_mut-node.ensures.value in
    on_err_weaker c.add_to.result
    (λ e. (
      1,
      first_none fc c.args.rest.now (forest_of old) (forest_of (slice_set mid i (roll-AstNode (record { predicate = (out-AstNode n).predicate; children = (out-AstNode n).children; descendants = (out-AstNode n).descendants; match_ids = c.add_to.new.ids })))) c.in-None.ensures.cases
          (set_at_index fc (λ k m. m ≡ k) old mid i n (record { predicate = (out-AstNode n).predicate; children = (out-AstNode n).children; descendants = (out-AstNode n).descendants; match_ids = c.add_to.new.ids }) at is
          (ap (λ (s : Ids). shape (record { predicate = (out-AstNode n).predicate; children = (out-AstNode n).children; descendants = (out-AstNode n).descendants; match_ids = s })) e)),
    ))
    c.add_to.ensures.unchanged

pub returns-in-None-clause-count : goal.returns-in-None-clause-count
returns-in-None-clause-count t c =
    let n = c.index_mut-node.result.now in
    let old = c.args.nodes.now.items in
    let mid = c.index_for.new.nodes.items in
    let i = c.in_ok-index.index in
    let fc = tests_of_compound c.args.first.now in
    let at = c.in_ok-index.ensures.index in
    let is = c.index_mut-node.ensures.value in
    omega (arith, size_set mid i n (record { predicate = (out-AstNode n).predicate; children = (out-AstNode n).children; descendants = (out-AstNode n).descendants; match_ids = c.add_to.new.ids }) (index_within fc old mid i at) is, c.in_ok-index.ensures.count)

pub returns-in-Child-clause-added : goal.returns-in-Child-clause-added
returns-in-Child-clause-added t c =
    let n = c.index_mut-node.result.now in
    let old = c.args.nodes.now.items in
    let mid = c.index_for.new.nodes.items in
    let i = c.in_ok-index.index in
    let fc = tests_of_compound c.args.first.now in
    let at = c.in_ok-index.ensures.index in
    let is = c.index_mut-node.ensures.value in
    let id = id_in c.args.id in
    on_ok_weaker c.add_path.result
    (λ a. adds_some id fc c.args.rest.now c.in-Some.rest.now c.in-Some.field-0-0.now Child (forest_of old) (forest_of (slice_set mid i (roll-AstNode (record { predicate = (out-AstNode n).predicate; children = c.add_path.new.nodes; descendants = (out-AstNode n).descendants; match_ids = (out-AstNode n).match_ids })))) c.in-Some.ensures.cases.0 c.in-Child.is
    (set_at_index fc (Under Child (Adds id (tests_of_compound c.in-Some.field-0-0.now.1) (steps_of c.in-Some.rest.now))) old mid i n (record { predicate = (out-AstNode n).predicate; children = c.add_path.new.nodes; descendants = (out-AstNode n).descendants; match_ids = (out-AstNode n).match_ids }) at is (forest_of c.add_path.new.nodes.items, a, refl)))
    c.add_path.ensures.added

pub returns-in-Child-clause-partly : goal.returns-in-Child-clause-partly
returns-in-Child-clause-partly t c =
    let n = c.index_mut-node.result.now in
    let old = c.args.nodes.now.items in
    let mid = c.index_for.new.nodes.items in
    let i = c.in_ok-index.index in
    let fc = tests_of_compound c.args.first.now in
    let at = c.in_ok-index.ensures.index in
    let is = c.index_mut-node.ensures.value in
    on_err_weaker c.add_path.result
    (λ a. (
      suc a.0,
      first_some a.0 fc c.args.rest.now c.in-Some.rest.now c.in-Some.field-0-0.now Child (forest_of old) (forest_of (slice_set mid i (roll-AstNode (record { predicate = (out-AstNode n).predicate; children = c.add_path.new.nodes; descendants = (out-AstNode n).descendants; match_ids = (out-AstNode n).match_ids })))) c.in-Some.ensures.cases.0 c.in-Child.is
          (set_at_index fc (Under Child (AddsFirst a.0 (tests_of_compound c.in-Some.field-0-0.now.1) (steps_of c.in-Some.rest.now))) old mid i n (record { predicate = (out-AstNode n).predicate; children = c.add_path.new.nodes; descendants = (out-AstNode n).descendants; match_ids = (out-AstNode n).match_ids }) at is (forest_of c.add_path.new.nodes.items, a.1, refl)),
    ))
    c.add_path.ensures.partly

pub returns-in-Child-clause-no_memory : goal.returns-in-Child-clause-no_memory
returns-in-Child-clause-no_memory t c stands =
    c.add_path.ensures.no_memory
    (stands_next (Fits c.args.id) (tests_of_compound c.args.first.now) c.args.rest.now c.in-Some.rest.now c.in-Some.field-0-0.now Child c.args.nodes.now.items c.index_for.new.nodes.items c.in_ok-index.index c.index_mut-node.result.now c.in-Some.ensures.cases.0 c.in-Child.is c.in_ok-index.ensures.index c.index_mut-node.ensures.value stands)

pub returns-in-Child-clause-count : goal.returns-in-Child-clause-count
returns-in-Child-clause-count t c =
    let n = c.index_mut-node.result.now in
    let old = c.args.nodes.now.items in
    let mid = c.index_for.new.nodes.items in
    let i = c.in_ok-index.index in
    let fc = tests_of_compound c.args.first.now in
    let at = c.in_ok-index.ensures.index in
    let is = c.index_mut-node.ensures.value in
    omega (arith, size_set mid i n (record { predicate = (out-AstNode n).predicate; children = c.add_path.new.nodes; descendants = (out-AstNode n).descendants; match_ids = (out-AstNode n).match_ids }) (index_within fc old mid i at) is, c.in_ok-index.ensures.count, c.add_path.ensures.count)

pub returns-in-Descendant-clause-added : goal.returns-in-Descendant-clause-added
returns-in-Descendant-clause-added t c =
    let n = c.index_mut-node.result.now in
    let old = c.args.nodes.now.items in
    let mid = c.index_for.new.nodes.items in
    let i = c.in_ok-index.index in
    let fc = tests_of_compound c.args.first.now in
    let at = c.in_ok-index.ensures.index in
    let is = c.index_mut-node.ensures.value in
    let id = id_in c.args.id in
    on_ok_weaker c.add_path-in-Descendant.result
    (λ a. adds_some id fc c.args.rest.now c.in-Some.rest.now c.in-Some.field-0-0.now Descendant (forest_of old) (forest_of (slice_set mid i (roll-AstNode (record { predicate = (out-AstNode n).predicate; children = (out-AstNode n).children; descendants = c.add_path-in-Descendant.new.nodes; match_ids = (out-AstNode n).match_ids })))) c.in-Some.ensures.cases.0 c.in-Descendant.is
    (set_at_index fc (Under Descendant (Adds id (tests_of_compound c.in-Some.field-0-0.now.1) (steps_of c.in-Some.rest.now))) old mid i n (record { predicate = (out-AstNode n).predicate; children = (out-AstNode n).children; descendants = c.add_path-in-Descendant.new.nodes; match_ids = (out-AstNode n).match_ids }) at is (forest_of c.add_path-in-Descendant.new.nodes.items, a, refl)))
    c.add_path-in-Descendant.ensures.added

pub returns-in-Descendant-clause-partly : goal.returns-in-Descendant-clause-partly
returns-in-Descendant-clause-partly t c =
    let n = c.index_mut-node.result.now in
    let old = c.args.nodes.now.items in
    let mid = c.index_for.new.nodes.items in
    let i = c.in_ok-index.index in
    let fc = tests_of_compound c.args.first.now in
    let at = c.in_ok-index.ensures.index in
    let is = c.index_mut-node.ensures.value in
    on_err_weaker c.add_path-in-Descendant.result
    (λ a. (
      suc a.0,
      first_some a.0 fc c.args.rest.now c.in-Some.rest.now c.in-Some.field-0-0.now Descendant (forest_of old) (forest_of (slice_set mid i (roll-AstNode (record { predicate = (out-AstNode n).predicate; children = (out-AstNode n).children; descendants = c.add_path-in-Descendant.new.nodes; match_ids = (out-AstNode n).match_ids })))) c.in-Some.ensures.cases.0 c.in-Descendant.is
          (set_at_index fc (Under Descendant (AddsFirst a.0 (tests_of_compound c.in-Some.field-0-0.now.1) (steps_of c.in-Some.rest.now))) old mid i n (record { predicate = (out-AstNode n).predicate; children = (out-AstNode n).children; descendants = c.add_path-in-Descendant.new.nodes; match_ids = (out-AstNode n).match_ids }) at is (forest_of c.add_path-in-Descendant.new.nodes.items, a.1, refl)),
    ))
    c.add_path-in-Descendant.ensures.partly

pub returns-in-Descendant-clause-no_memory : goal.returns-in-Descendant-clause-no_memory
returns-in-Descendant-clause-no_memory t c stands =
    c.add_path-in-Descendant.ensures.no_memory
    (stands_next (Fits c.args.id) (tests_of_compound c.args.first.now) c.args.rest.now c.in-Some.rest.now c.in-Some.field-0-0.now Descendant c.args.nodes.now.items c.index_for.new.nodes.items c.in_ok-index.index c.index_mut-node.result.now c.in-Some.ensures.cases.0 c.in-Descendant.is c.in_ok-index.ensures.index c.index_mut-node.ensures.value stands)

pub returns-in-Descendant-clause-count : goal.returns-in-Descendant-clause-count
returns-in-Descendant-clause-count t c =
    let n = c.index_mut-node.result.now in
    let old = c.args.nodes.now.items in
    let mid = c.index_for.new.nodes.items in
    let i = c.in_ok-index.index in
    let fc = tests_of_compound c.args.first.now in
    let at = c.in_ok-index.ensures.index in
    let is = c.index_mut-node.ensures.value in
    omega (arith, size_set mid i n (record { predicate = (out-AstNode n).predicate; children = (out-AstNode n).children; descendants = c.add_path-in-Descendant.new.nodes; match_ids = (out-AstNode n).match_ids }) (index_within fc old mid i at) is, c.in_ok-index.ensures.count, c.add_path-in-Descendant.ensures.count)
