use Rattle.std.proofs.Common.{ℕ, ◌≡◌, ◌<◌, arith, get_or, length, map, None, Some, ap, sym, ◌∙◌, below_more, true≢false}
use Rattle.std.proofs.lemmas.List.{length-map}
use Rattle.lol_program.specs.Indexed.{at_key}
use Rattle.lol_program.specs.NodeKeys.{node_key}
use Rattle.lol_program.specs.Views.{node_of, tests_of_compound}
use Rattle.lol_program.specs.NodeViewLaws.{compound_at}
use Rattle.lol_program.proofs.Indexing.{nowhere_by_key, index_from_differ}
use Rattle.lol_program.proofs.node_index.NodeIndex.index_by_key.Goals as goal
use Rattle.lol_program.proofs.node_index.NodeIndex.index_by_key.Goals.{else-index-nodes-via-then-index-nodes+else-is_of, else-index-nodes-via-else-index-nodes}

pub returns-in_err-index-clause-none : goal.returns-in_err-index-clause-none
returns-in_err-index-clause-none c =
    let node_index = c.args.self.now in
    let list = c.args.list.now in
    let first = tests_of_compound c.args.compound.now in
    let salt = c.loop-salt.salt in
    let free : at_key node_index (node_key list salt first) ≡ None = ap (at_key node_index) (sym c.node_key.ensures) ∙ sym c.get.ensures.value ∙ sym c.copied.ensures ∙ c.in_err-index.was in
    rw c.from_residual.ensures (nowhere_by_key node_index list first (map node_of c.args.nodes.now) salt (omega arith) c.requires.indexed free c.loop-salt.invariant)

pub returns-then-is_of-clause-some : goal.returns-then-is_of-clause-some
returns-then-is_of-clause-some c =
    let nodes = c.args.nodes.now in
    let index = c.in_ok-index.index in
    let node = c.index-nodes-index.result in
    let within : index < length (map node_of nodes) = omega (arith, c.if-index-nodes.true, length-map nodes node_of) in
    index_from_differ (tests_of_compound c.args.compound.now) (map node_of nodes) index c.requires.differ within
    (λ d. compound_at nodes index node d c.if-index-nodes.true ∙ c.is_of.ensures.0 c.if-is_of.true)

pub loop-salt-preserved : goal.loop-salt-preserved
loop-salt-preserved c =
    let node_index = c.args.self.now in
    let nodes = c.args.nodes.now in
    let index = c.in_ok-index.index in
    let first = tests_of_compound c.args.compound.now in
    let key = node_key c.args.list.now c.loop-salt.salt first in
    let there : at_key node_index key ≡ Some index = ap (at_key node_index) (sym c.node_key.ensures) ∙ sym c.get.ensures.value ∙ sym c.copied.ensures ∙ c.in_ok-index.was in
    below_more _ _ c.loop-salt.invariant
    (λ i d at within is.
    let same : i ≡ index = cc (at, there) in
    elim c.else-index-nodes.branch [
      | else-index-nodes-via-then-index-nodes+else-is_of w ↦
          let node = w.index-nodes-index.result in
          true≢false
          (sym (w.is_of.ensures.1 (sym (compound_at nodes index node d w.if-index-nodes.true) ∙ ap (λ (k : ℕ). (get_or (map node_of nodes) k d).compound) (sym same) ∙ is)) ∙ w.if-is_of.false)
      | else-index-nodes-via-else-index-nodes w ↦ absurd (omega (arith, w.if-index-nodes.false, within, same, length-map nodes node_of))
    ])
